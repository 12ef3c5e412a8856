pub mod Lent
pub mod Signals
