pub mod Refine
pub mod Steps
