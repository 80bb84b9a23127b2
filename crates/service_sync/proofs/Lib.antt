pub mod Syncs
pub mod Unique
pub mod Printed
