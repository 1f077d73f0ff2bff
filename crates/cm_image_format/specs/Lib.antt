pub mod Reading
pub mod Header
pub mod Cuts
pub mod Image
pub mod Whole
pub mod Laws
