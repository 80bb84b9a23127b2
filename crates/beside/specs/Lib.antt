pub mod Beside
pub mod Document
