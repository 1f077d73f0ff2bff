pub mod Lines
pub mod Performed
