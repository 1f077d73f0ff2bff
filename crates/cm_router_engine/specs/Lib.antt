pub mod Standing
pub mod Ranking
pub mod Routed
pub mod Arrived
