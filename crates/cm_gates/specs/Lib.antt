pub mod Dealing
pub mod Handing
pub mod Blocks
pub mod Gates
pub mod Forks
