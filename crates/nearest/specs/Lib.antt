pub mod Reading
pub mod Extra
pub mod Document
pub mod Search
pub mod Printed
