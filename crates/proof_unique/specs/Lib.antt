pub mod Unique
pub mod Library
pub mod Printed
