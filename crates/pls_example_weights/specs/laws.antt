-- The laws of the scheme.
pub mod SameWeightsLaws
