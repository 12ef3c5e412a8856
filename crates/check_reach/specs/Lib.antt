pub mod Ready
pub mod Belief
pub mod Needs
pub mod Reached
