pub mod Table
pub mod Light
pub mod Words
pub mod Distance
pub mod Smallest
pub mod Numbers
pub mod Vectors
pub mod Unique
