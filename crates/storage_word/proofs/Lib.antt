mod Words
pub mod Rounding
pub mod Valid
