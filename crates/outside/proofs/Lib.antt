pub mod Took
pub mod Unique
