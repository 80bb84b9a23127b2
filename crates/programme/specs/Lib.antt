pub mod Byte
pub mod Names
pub mod Printed
