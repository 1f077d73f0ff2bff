pub mod Says
pub mod Layout
pub mod Expansion
