pub mod Byte
pub mod Names
pub mod Unique
pub mod Printed
