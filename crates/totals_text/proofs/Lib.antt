pub mod Printed
pub mod Fits
pub mod Unique
