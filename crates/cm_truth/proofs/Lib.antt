mod Choosing
mod Entries
