pub mod Completing
pub mod Faults
pub mod Json
pub mod Line
