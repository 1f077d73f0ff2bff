pub mod Data
pub mod DataLaws
pub mod Lab
pub mod PictureLaws
pub mod Pictures
