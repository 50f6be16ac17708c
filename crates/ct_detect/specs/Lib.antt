pub mod EveryNth
pub mod Listed
pub mod Seeded
