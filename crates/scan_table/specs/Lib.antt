pub mod Start
pub mod Scan
