pub mod Cutting
pub mod Local
pub mod Mailing
pub mod Bands
pub mod News
pub mod Stepping
pub mod Rounding
pub mod Joining
pub mod Filling
mod StandardFacts
