pub mod Codes
pub mod Printed
