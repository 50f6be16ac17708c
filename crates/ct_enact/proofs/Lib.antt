pub mod Enacted
pub mod Places
pub mod Written
