pub mod Basics
pub mod Record
pub mod Steps
pub mod Consensus
pub mod Relay
pub mod Delivery
pub mod Numbers
pub mod Worked
