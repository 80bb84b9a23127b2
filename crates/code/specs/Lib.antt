pub mod Generators
pub mod Words
