pub mod Fields
pub mod Json
pub mod JsonEnvelopes
pub mod JsonParts
pub mod JsonState
pub mod JsonSteps
