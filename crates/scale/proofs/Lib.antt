pub mod Word
pub mod Bench
pub mod Unique
pub mod Printed
