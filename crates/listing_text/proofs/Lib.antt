pub mod Text
pub mod Unique
