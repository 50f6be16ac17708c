pub mod Asking
pub mod Fronts
pub mod Numbers
pub mod Options
pub mod Values
