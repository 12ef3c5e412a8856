pub mod Sizes
pub mod Ran
pub mod Some
