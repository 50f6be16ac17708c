pub mod Adds
pub mod Lists
pub mod Shapes
pub mod Standing
