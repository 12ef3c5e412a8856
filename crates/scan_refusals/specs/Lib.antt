pub mod Lent
pub mod Tests
pub mod Laws
