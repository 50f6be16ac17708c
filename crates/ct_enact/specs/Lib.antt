pub mod Enacted
pub mod Enacting
pub mod Faults
