pub mod Spelled
pub mod Turns
