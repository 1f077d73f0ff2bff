mod Going
mod Lines
mod Whole
mod Example
