pub mod Shapes
pub mod Acts
pub mod Wires
pub mod Details
pub mod Lines
pub mod Facts
pub mod Own
pub mod State
