pub mod SameRecord
pub mod Written
