pub mod Presuming
