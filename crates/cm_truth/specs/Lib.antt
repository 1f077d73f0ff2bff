pub mod Choice
pub mod Lookup
