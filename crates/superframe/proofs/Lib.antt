pub mod Parts
pub mod Served
pub mod Took
pub mod Refusals
pub mod Serving
pub mod Counts
pub mod Unique
