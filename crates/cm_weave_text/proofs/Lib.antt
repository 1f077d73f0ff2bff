pub mod Texts
pub mod Lines
pub mod Pieces
pub mod Going
pub mod Ending
pub mod Playing
