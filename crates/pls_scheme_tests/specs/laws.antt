-- The laws of the example scheme.
pub mod IndependentSetLaws
