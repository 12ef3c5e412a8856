pub mod Parameter
pub mod Entry
pub mod RangeLaws
pub mod Given
