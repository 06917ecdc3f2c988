pub mod Closing
pub mod laws
