pub mod Header
pub mod Run
pub mod Printed
