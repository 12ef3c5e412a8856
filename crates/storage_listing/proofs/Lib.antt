pub mod RefusalLaws
pub mod Spots
pub mod Laws
pub mod Standing
