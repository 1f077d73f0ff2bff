pub mod Joining
pub mod Reading
