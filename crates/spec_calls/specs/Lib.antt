pub mod Stores
pub mod Holding
pub mod RingWords
pub mod Scanned
pub mod Refusals
pub mod Answers
pub mod Keyings
