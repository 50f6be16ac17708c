pub mod Copies
pub mod Rising
pub mod Picks
pub mod Estimates
pub mod Places
