pub mod Basics
pub mod Steps
pub mod Delivery
pub mod Reading
