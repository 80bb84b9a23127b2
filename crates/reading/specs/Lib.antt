pub mod Reading
pub mod Search
pub mod Demand
pub mod Wrong
