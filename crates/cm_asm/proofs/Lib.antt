pub mod Named
pub mod Reading
pub mod SinglePass
pub mod Telling
pub mod Thirds
