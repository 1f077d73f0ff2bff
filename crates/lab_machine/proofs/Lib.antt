pub mod Lent
pub mod RoomFaults
pub mod Tabulating
