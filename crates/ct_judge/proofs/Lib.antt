pub mod Explaining
pub mod Hearing
pub mod Kept
pub mod Parts
pub mod Lines
pub mod Trimmed
