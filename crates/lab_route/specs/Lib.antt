pub mod RouteLaws
pub mod RouteLines
pub mod Routes
pub mod Waits
pub mod Whereabouts
pub mod Followed
