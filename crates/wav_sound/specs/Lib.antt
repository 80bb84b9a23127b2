pub mod Sound
pub mod Reel
