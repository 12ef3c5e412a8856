pub mod Line
pub mod Left
pub mod Written
