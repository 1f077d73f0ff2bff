pub mod Effect
pub mod Acts
pub mod Faults
pub mod Laws
