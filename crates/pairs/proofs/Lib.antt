pub mod Values
pub mod Order
pub mod Keys
pub mod Tables
pub mod Unique
