mod Columns
pub mod Fields
mod Flagged
mod Halves
mod Lanes
mod Laying
mod Planes
mod Poking
mod Putting
mod Spreading
mod Squares
mod Filling
mod Stepping
mod Replacing
mod Storing
mod Widening
mod Nearing
