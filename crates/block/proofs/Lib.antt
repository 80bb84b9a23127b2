pub mod Joined
pub mod Places
pub mod Answered
pub mod Demand
pub mod Shared
pub mod Unique
pub mod Printed
pub mod Mark
