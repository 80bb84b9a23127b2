pub mod Fewest
pub mod Search
pub mod Thrice
pub mod Numbers
pub mod Nearest
pub mod ExtraBits
pub mod Printed
pub mod Unique
