pub mod Ring
pub mod Crossing
pub mod TwoRings
pub mod inner
