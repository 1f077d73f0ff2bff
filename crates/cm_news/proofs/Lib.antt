mod Shifting
mod Stepping
mod Sources
mod OneWay
mod Joining
mod Rounding
mod Banding
