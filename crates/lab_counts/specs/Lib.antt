pub mod Crossings
pub mod CrossingLaws
pub mod Chips
pub mod Counts
pub mod Tables
