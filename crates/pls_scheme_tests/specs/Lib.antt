pub mod laws
pub mod IndependentSet
pub mod Pair
