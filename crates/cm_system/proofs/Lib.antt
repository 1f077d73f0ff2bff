mod Fronts
pub mod Leading
mod ToTheEnd
mod Putting
pub mod Taking
