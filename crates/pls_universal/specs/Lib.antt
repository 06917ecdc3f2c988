pub mod Map
pub mod Rules
pub mod Reading
pub mod Bound
pub mod inner
pub mod laws
