pub mod Filling
pub mod Taking
mod Cutting
mod Turning
pub mod Lengths
