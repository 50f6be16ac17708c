pub mod Files
pub mod Runs
pub mod Slots
pub mod Taking
pub mod Telling
pub mod Grouping
pub mod Merged
