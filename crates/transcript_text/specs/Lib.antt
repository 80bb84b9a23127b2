pub mod Superframe
