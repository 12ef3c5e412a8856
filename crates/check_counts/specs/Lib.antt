pub mod Calls
pub mod Subs
pub mod Lent
pub mod Ahead
pub mod Tables
