pub mod Moves
pub mod Laws
pub mod Rounds
pub mod Bands
