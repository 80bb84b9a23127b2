pub mod Signed
pub mod Sample
pub mod Factor
pub mod Patterns
pub mod Unused
pub mod Bench
pub mod Unique
pub mod Printed
