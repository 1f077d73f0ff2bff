pub mod Telling
pub mod State
pub mod Longest
pub mod Gathering
pub mod BufferedOutput
pub mod Talk
pub mod Hearing
pub mod Taking
