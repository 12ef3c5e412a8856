pub mod Saturate
pub mod Dot
pub mod Ready
