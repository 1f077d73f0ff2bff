pub mod Kinds
pub mod Moves
pub mod Parts
pub mod Woven
pub mod First
pub mod Faults
pub mod Laws
