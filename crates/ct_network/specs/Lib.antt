pub mod Packed
pub mod EnvelopeList
pub mod WaitingLine
pub mod Network
pub mod Lines
pub mod Moves
