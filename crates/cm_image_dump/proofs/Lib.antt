mod Dumping
mod Leaving
mod Routed
mod Listing
mod Lengths
mod Counting
mod Blanks
mod Longest
