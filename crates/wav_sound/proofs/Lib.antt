pub mod Back
pub mod Entry
pub mod Reel
pub mod Unique
pub mod Printed
pub mod Samples
