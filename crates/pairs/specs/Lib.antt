pub mod Order
pub mod Pairs
