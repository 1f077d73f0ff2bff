pub mod Lanes
pub mod Standing
pub mod Turns
pub mod Workers
