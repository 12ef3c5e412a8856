pub mod Moving
pub mod Laws
