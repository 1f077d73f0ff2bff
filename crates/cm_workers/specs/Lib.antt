pub mod Posts
pub mod Each
pub mod Turns
pub mod Shifts
pub mod Runs
pub mod Gates
