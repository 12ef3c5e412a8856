mod Walk
pub mod Laws
