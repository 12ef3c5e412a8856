pub mod Numbers
pub mod Unknown
pub mod Decoded
pub mod Entries
