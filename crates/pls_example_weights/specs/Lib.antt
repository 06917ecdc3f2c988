pub mod SameWeights
pub mod laws
