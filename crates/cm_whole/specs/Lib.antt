pub mod Inputs
pub mod Acts
pub mod Whole
pub mod Example
