pub mod Bitwise
pub mod Numbered
pub mod Flags
pub mod Fetched
pub mod AllPhrases
pub mod LeftAlone
