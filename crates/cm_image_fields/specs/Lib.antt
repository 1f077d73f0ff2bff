pub mod Cuts
pub mod Memory
