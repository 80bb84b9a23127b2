pub mod Fits
pub mod Unique
mod Cases
