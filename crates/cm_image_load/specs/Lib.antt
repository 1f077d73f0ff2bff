pub mod Chips
pub mod WaitingChips
pub mod Pieces
pub mod Taken
