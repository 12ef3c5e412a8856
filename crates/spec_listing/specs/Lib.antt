pub mod Step
pub mod Listing
pub mod Pieces
pub mod Long
pub mod Reading
