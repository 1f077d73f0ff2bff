pub mod Teams
pub mod Gathering
pub mod Laws
pub mod TeamSetups
pub mod SharedLists
