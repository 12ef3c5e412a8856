pub mod Demand3
pub mod Before
pub mod Kept
pub mod Refused
pub mod One
