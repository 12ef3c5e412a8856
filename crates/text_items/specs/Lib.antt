pub mod Split
pub mod Cut
pub mod SplitLaws
pub mod Pieces
