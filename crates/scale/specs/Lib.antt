pub mod Word
pub mod Printed
