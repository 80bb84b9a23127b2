pub mod Layout
pub mod Read
pub mod Demand
pub mod Printed
pub mod Mark
