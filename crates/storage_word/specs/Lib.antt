pub mod Word
pub mod Examples
