pub mod Looks
pub mod Meeting
pub mod Reading
pub mod Somes
