pub mod Carrying
pub mod Keeping
pub mod Leaving
pub mod Places
pub mod Rising
pub mod Arrived
