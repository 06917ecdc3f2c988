pub mod Spt
pub mod inner
pub mod laws
