pub mod Rounds
pub mod Counts
pub mod Parts
pub mod Parcels
pub mod Steps
pub mod Laws
