mod Reading
mod Telling
mod OneChip
mod Programs
mod Weaving
mod PlainRouting
mod Hearing
mod Listing
