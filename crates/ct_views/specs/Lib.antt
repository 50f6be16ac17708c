pub mod Selected
pub mod Answer
pub mod Line
pub mod Checking
