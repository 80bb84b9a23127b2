pub mod Heard
pub mod Bare
pub mod Unique
