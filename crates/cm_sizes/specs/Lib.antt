pub mod Sizes
pub mod Opening
pub mod ImageSources
pub mod Laws
