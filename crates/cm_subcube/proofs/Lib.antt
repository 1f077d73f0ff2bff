mod Rounding
mod Blocking
pub mod Joining
mod Exchanging
pub mod Counting
pub mod Clocks
pub mod Following
mod Stopping
mod Going
mod Acting
pub mod Sparing
pub mod FewRounds
