pub mod Delivering
pub mod Taking
pub mod Rooms
pub mod Telling
pub mod Recording
pub mod Oldest
pub mod Cutting
