pub mod Back
pub mod Unique
pub mod Printed
