pub mod Labels
pub mod Rules
pub mod Making
pub mod inner
pub mod laws
