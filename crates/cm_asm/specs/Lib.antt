pub mod SinglePass
pub mod Thirds
pub mod Verbs
