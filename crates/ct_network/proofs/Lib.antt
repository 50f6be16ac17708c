pub mod Posts
pub mod Waiting
pub mod Joins
pub mod Readings
pub mod Packing
pub mod Finding
pub mod Order
