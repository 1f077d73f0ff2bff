pub mod Rounds
pub mod Blocks
pub mod Parcels
pub mod Local
pub mod Laws
pub mod Few
