pub mod Writing
pub mod Back
pub mod Damaged
pub mod Burst
pub mod Wrong
pub mod Unique
pub mod Printed
pub mod Order
