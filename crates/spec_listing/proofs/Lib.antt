pub mod ReadingLaws
pub mod Parts
pub mod Printed
pub mod Feeding
