pub mod Run
pub mod Togo
pub mod Kept
pub mod Small
pub mod Turn
pub mod Stays
pub mod Loop
pub mod Lent
