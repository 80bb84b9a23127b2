pub mod Sync
pub mod Printed
