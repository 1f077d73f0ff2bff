pub mod Asked
pub mod ForAll
pub mod Telling
pub mod Front
pub mod Ends
pub mod Hearing
pub mod Images
pub mod Laws
