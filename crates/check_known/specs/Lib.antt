pub mod Laid
pub mod ByNumber
pub mod LaidLaws
