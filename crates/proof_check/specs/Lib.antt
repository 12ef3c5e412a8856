pub mod Walk
pub mod Labels
pub mod Passed
pub mod CallLaws
pub mod ClampBelief
