pub mod Best
pub mod Faults
pub mod Line
