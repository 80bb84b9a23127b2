pub mod Orders
pub mod Groups
pub mod Unique
