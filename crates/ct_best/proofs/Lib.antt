pub mod Bests
pub mod Smallest
