pub mod Lent
pub mod Taken
pub mod Held
