pub mod Taking
pub mod Service
pub mod Run
pub mod Broadcast
pub mod Printed
