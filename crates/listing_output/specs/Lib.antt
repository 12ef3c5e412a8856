pub mod Written
pub mod WrittenLaws
pub mod Shown
pub mod ShownLaws
pub mod Walk
pub mod Examples
