pub mod Feeding
pub mod Fresh
pub mod Parts
pub mod Pending
pub mod Same
pub mod Within
