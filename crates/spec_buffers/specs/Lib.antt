pub mod Held
pub mod Cells
pub mod Output
pub mod Effects
pub mod Refine
pub mod RefineEntry
pub mod Reps
pub mod Read
