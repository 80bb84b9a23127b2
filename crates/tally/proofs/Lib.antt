pub mod Sums
pub mod Order
pub mod Whole
pub mod Run
pub mod Unique
