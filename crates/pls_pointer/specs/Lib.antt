pub mod Pointing
pub mod Tree
pub mod Forest
pub mod inner
pub mod laws
