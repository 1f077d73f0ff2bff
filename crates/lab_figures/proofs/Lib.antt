pub mod Blanks
pub mod Dots
pub mod Enlarging
pub mod Framing
pub mod Growing
mod StandardFacts
pub mod Summing
pub mod Texts
