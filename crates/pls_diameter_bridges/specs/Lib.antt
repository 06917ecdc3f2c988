pub mod Diameter
pub mod Bridgeless
pub mod Tests
pub mod inner
pub mod laws
