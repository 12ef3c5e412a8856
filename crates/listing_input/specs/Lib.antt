pub mod Line
pub mod LineLaws
pub mod Extent
pub mod ExtentLaws
pub mod Examples
