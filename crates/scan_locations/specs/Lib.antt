pub mod Lent
pub mod Reps
