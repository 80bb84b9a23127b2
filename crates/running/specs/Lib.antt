pub mod Running
pub mod Document
