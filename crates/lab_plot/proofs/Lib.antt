pub mod Growing
pub mod Joining
pub mod Reading
pub mod Standing
pub mod Twelve
