pub mod Calls
pub mod Run
pub mod Alike
pub mod Totals
