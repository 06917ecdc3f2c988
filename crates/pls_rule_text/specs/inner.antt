pub mod Openings
pub mod Parts
pub mod Atoms
pub mod Fronts
pub mod Held
pub mod Places
pub mod Said
