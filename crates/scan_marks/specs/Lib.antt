pub mod Marks
pub mod Move
pub mod Laws
