pub mod Places
pub mod Picking
mod Ends
pub mod Going
mod Absorbing
mod Working
mod Powers
