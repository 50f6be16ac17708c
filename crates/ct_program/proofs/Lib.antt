pub mod Subcommands
pub mod Lines
