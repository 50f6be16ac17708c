pub mod Members
pub mod SeatLists
pub mod Places
pub mod Posts
pub mod Waits
pub mod Rooms
pub mod Starts
