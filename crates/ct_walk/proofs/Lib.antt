pub mod Crashes
pub mod Cuts
mod Entries
pub mod Found
pub mod Looping
pub mod Rounds
pub mod Trying
pub mod Turning
pub mod Untils
