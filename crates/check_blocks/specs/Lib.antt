pub mod Depth
pub mod Going
