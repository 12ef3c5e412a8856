pub mod SameRun
pub mod SameScan
pub mod Written
