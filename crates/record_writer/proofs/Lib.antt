mod Rows
pub mod ByType
