pub mod Finite
pub mod Laws
