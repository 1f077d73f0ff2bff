mod Opened
mod Sourcing
mod Fitting
