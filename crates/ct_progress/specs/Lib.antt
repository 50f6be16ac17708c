pub mod Progress
pub mod Stuck
