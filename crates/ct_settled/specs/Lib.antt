pub mod Completing
pub mod Hindrance
pub mod Marks
pub mod Settled
