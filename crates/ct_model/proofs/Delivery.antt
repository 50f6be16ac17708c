-- Batches, their order, and that every state of a run is safe.
pub mod Batches
pub mod Proposals
pub mod Prefixes
pub mod Longest
pub mod Order
pub mod Safety
