pub mod Reached
pub mod Rest
pub mod Crossed
pub mod Strong
pub mod Worked
