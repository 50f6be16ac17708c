-- What is received and passed on.
pub mod Receipts
pub mod Additions
pub mod Messages
pub mod History
pub mod Relaying
pub mod Integrity
