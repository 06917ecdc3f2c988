-- What schemes prove with these labels: proofs, which nobody has to believe.
pub mod LabelLaws
pub mod Levelwise
pub mod InTree
pub mod Placed
pub mod RightHeads
pub mod Fits
