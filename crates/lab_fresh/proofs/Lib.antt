mod WireEnds
mod Halving
