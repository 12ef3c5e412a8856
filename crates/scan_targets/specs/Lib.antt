pub mod Told
pub mod Fill
pub mod Laws
