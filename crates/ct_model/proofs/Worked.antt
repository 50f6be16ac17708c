-- Worked lists of steps, computed.
pub mod Common
pub mod Messages
pub mod Rounds
pub mod Runs
pub mod Network
pub mod Bounds
