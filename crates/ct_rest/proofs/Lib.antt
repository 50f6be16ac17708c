mod Ballots
mod Blocked
mod Duties
mod Posts
mod Levels
mod Rounds
mod Done
mod Stable
