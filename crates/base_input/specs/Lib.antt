pub mod Known
pub mod More
