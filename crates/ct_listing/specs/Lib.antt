pub mod Line
pub mod Leading
pub mod Expecting
pub mod Heading
pub mod Listing
pub mod Goals
pub mod Naming
