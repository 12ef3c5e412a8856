mod Turns
mod Going
pub mod Same
