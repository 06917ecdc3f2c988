-- What the laws of the codes rest on: proofs, which nobody has to believe.
pub mod BinaryLaws
pub mod FloorLogLaws
pub mod GammaLaws
pub mod DeltaLaws
