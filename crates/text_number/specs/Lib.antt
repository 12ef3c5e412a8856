pub mod Examples
pub mod Keyed
