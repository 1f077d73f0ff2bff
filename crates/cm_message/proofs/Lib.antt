pub mod Numbers
mod Messages
