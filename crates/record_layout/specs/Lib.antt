pub mod Layout
pub mod Laws
pub mod RecordLaws
pub mod Kinds
