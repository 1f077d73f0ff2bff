pub mod Sharing
pub mod Run
pub mod SessionRunners
pub mod Files
pub mod Runs
