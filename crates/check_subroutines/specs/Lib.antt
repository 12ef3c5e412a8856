pub mod Labels
pub mod Listed
