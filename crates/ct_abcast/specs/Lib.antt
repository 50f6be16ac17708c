pub mod Batches
pub mod Cast
pub mod Ends
pub mod Last
pub mod Ordered
pub mod Pending
