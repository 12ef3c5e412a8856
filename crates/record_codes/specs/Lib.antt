pub mod Loaded
pub mod Kinds
