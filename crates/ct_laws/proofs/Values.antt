-- The values that JSON is read as.
pub mod Bounded
pub mod Compact
pub mod Feedless
pub mod Mild
pub mod ReadFitting
pub mod ReportMild
pub mod StateMild
pub mod StepsMild
