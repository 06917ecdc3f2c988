pub mod Labels
pub mod Rules
pub mod Mst
pub mod inner
pub mod laws
