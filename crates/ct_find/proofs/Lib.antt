pub mod Alone
pub mod Asked
pub mod Blocks
pub mod Hits
pub mod Orders
pub mod Parts
pub mod Quotes
