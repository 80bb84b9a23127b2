pub mod Search
pub mod Wrong
pub mod Unique
