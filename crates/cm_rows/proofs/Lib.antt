mod Joining
mod Lanes
mod Words
