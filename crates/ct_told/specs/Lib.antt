pub mod GivenNames
pub mod OddRecords
pub mod OddSteps
pub mod NoRecords
pub mod Faults
