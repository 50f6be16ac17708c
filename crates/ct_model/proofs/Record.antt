-- The record after one more step: the run, stamps, waiting lines, causes and limits.
pub mod Runs
pub mod Members
pub mod Frame
pub mod Start
pub mod Stamps
pub mod Lines
pub mod Envelopes
pub mod Allows
pub mod Taken
pub mod Addressees
pub mod Senders
pub mod Causes
pub mod Limits
pub mod Allowed
pub mod Passed
