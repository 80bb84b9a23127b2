pub mod Page
pub mod Pens
pub mod Entry
pub mod Digits
