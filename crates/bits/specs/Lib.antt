pub mod Table
pub mod Digits
pub mod Bits
pub mod Answer
pub mod Letters
pub mod Order
pub mod Refused
pub mod Printed
