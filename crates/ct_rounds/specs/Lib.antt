pub mod Best
pub mod Inbox
pub mod Part
pub mod Tally
