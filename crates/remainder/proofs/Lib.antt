pub mod Sum
pub mod Division
pub mod Divided
pub mod Columns
pub mod Ones
pub mod Parity
pub mod Register
pub mod Unique
