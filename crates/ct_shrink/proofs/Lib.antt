pub mod Beginning
pub mod Contents
pub mod Leading
pub mod Named
pub mod Reading
pub mod Smaller
pub mod Telling
pub mod Tried
