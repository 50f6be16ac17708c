pub mod Found
pub mod Joins
pub mod Listed
pub mod Pieces
pub mod Pushed
pub mod Tracing
