pub mod Needless
pub mod Places
