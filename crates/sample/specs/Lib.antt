pub mod Signed
pub mod Sample
pub mod Factor
pub mod Pattern
pub mod Printed
