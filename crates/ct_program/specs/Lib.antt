pub mod Commands
pub mod FreeOptions
pub mod Line
pub mod Planning
pub mod Seeding
pub mod FreeRun
