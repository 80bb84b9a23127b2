pub mod Polynomial
pub mod Remainder
pub mod Columns
pub mod Divided
