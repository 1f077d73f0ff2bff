mod Lists
mod Dealing
mod Banding
mod Halving
mod Wholes
mod Searching
pub mod Rooms
mod Machines
mod Accounts
mod Building
mod Tagging
pub mod Poking
pub mod Laying
mod Cutting
mod Putting
pub mod Behind
