pub mod Little
pub mod Unique
