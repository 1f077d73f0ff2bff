pub mod Lanes
pub mod Worlds
pub mod Steps
pub mod Laws
