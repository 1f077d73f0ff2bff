pub mod Cycles
pub mod Drawing
pub mod Laws
pub mod Legs
pub mod Rows
