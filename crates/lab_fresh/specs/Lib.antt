pub mod Fresh
pub mod Draws
pub mod Drawn
pub mod Laws
