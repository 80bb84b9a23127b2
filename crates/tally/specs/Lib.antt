pub mod Totals
pub mod Reel
