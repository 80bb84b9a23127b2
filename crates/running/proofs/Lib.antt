pub mod Sums
pub mod More
pub mod Adds
pub mod Refusals
pub mod Ranges
pub mod Unique
