-- Numbers in place of values, and the wires of a round counted one by one.
pub mod Counts
pub mod Naturality
