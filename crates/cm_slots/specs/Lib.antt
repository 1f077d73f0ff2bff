pub mod Queues
pub mod Tickets
pub mod Slots
pub mod Choice
pub mod Tiles
pub mod Runs
pub mod Moves
pub mod Arrivals
