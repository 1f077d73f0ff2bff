mod PlaceByPlace
mod Turning
mod Shifting
mod Sharing
mod Staging
mod Standing
mod Passing
mod Forking
