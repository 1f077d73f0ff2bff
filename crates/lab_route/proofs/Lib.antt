pub mod Crossing
pub mod Following
pub mod Routing
pub mod Searching
mod Followed
