pub mod Common
mod Fields
mod Left
mod Texts
pub mod Unescaped
