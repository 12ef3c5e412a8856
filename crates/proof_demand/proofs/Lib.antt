pub mod Runs
pub mod Carried
pub mod Example
pub mod DemandProof
