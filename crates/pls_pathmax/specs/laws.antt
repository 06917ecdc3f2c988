-- What the laws of the scheme rest on: proofs, which nobody has to believe.
pub mod LabelLaws
pub mod Kept
pub mod Passed
pub mod Sound
pub mod Met
pub mod Fits
pub mod PathMaxLaws
