-- Laws of lines and parts, that laws of traits rest on.
pub mod Cuts
pub mod Fronts
pub mod Parts
pub mod Sequences
pub mod Frames
pub mod ListLaws
pub mod BothLaws
pub mod LineWords
pub mod WordedLaws
pub mod CountedLaws
pub mod NumberWords
