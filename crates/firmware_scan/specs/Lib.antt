pub mod Scan
