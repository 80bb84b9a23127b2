pub mod Step
pub mod Whole
pub mod Unique
