pub mod Dot
pub mod Ready
