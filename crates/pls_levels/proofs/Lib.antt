pub mod Labels
pub mod LevelsLeft
mod Written
mod Logarithm
pub mod Made
pub mod KeptFronts
