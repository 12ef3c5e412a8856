pub mod Ranges
pub mod Blocks
pub mod Calls
pub mod Counts
pub mod Check
