pub mod Asks
pub mod Done
pub mod Needs
pub mod Arms
