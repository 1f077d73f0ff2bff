mod Accounts
pub mod Bounded
mod Running
mod Macros
mod Messages
mod Clocks
pub mod Stretching
pub mod Lines
mod StandardFacts
mod WholeFacts
