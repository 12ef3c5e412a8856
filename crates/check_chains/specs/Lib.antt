pub mod Chains
pub mod Between
pub mod Heights
pub mod Belief
