pub mod Word
pub mod Unique
