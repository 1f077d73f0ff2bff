pub mod Named
pub mod Laying
pub mod Writing
pub mod Pushing
