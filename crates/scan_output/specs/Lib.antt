pub mod Words
pub mod Lent
pub mod Laws
pub mod Ready
pub mod Read
