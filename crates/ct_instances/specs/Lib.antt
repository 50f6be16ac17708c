pub mod Kept
pub mod Decided
pub mod Opened
pub mod Steps
pub mod Named
pub mod Keeping
