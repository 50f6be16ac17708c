pub mod Posting
pub mod Deliveries
pub mod Delivering
pub mod Following
pub mod Closings
