pub mod Shown
pub mod Standings
pub mod Decisions
pub mod Driving
pub mod Foremost
pub mod Meetings
pub mod Replaying
