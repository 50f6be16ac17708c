pub mod Seen
mod Inputs
