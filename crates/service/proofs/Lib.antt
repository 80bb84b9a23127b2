pub mod Unique
pub mod Machine
pub mod Progress
pub mod Labels
pub mod Clean
pub mod Printed
