-- What is expected and shown is so.
pub mod Acts
pub mod Members
pub mod Showing
pub mod Steps
pub mod Values
