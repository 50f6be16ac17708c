pub mod Named
pub mod Keeping
pub mod Turning
