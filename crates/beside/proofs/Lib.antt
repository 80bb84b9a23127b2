pub mod Carried
pub mod Stands
pub mod Unique
pub mod Scales
