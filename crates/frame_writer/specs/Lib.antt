pub mod Write
pub mod Damaged
pub mod Burst
pub mod Printed
