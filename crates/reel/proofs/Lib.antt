pub mod Numbers
pub mod Run
pub mod Unique
pub mod Printed
pub mod Order
