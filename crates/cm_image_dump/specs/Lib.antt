pub mod Planes
pub mod Sending
pub mod Longest
