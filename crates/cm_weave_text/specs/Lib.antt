pub mod Words
pub mod Session
pub mod Ends
pub mod Faults
pub mod Alone
pub mod Hearing
