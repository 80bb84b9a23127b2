pub mod Pages
pub mod Pens
pub mod Entry
pub mod Decimal
pub mod Unique
