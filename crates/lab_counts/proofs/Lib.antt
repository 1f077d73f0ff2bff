pub mod CrossingLemmas
pub mod Together
