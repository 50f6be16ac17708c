-- The facts of consensus that every step keeps, and what follows: what is locked stays so.
pub mod Facts
pub mod Readings
pub mod Sent
pub mod Growth
pub mod Obligations
pub mod Turns
pub mod Others
pub mod Runs
pub mod Locking
