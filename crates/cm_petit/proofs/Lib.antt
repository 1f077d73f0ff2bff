pub mod Making
pub mod Cycling
pub mod Resting
pub mod IntoRow
