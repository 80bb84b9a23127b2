pub mod Hold
pub mod Printed
