pub mod Pushed
pub mod Refused
