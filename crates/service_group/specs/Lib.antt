pub mod Places
pub mod Six
