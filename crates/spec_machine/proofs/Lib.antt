pub mod MatchingLaws
pub mod FrameSteps
pub mod FrameLaws
pub mod Computed
