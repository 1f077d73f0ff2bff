pub mod Hands
mod Across
