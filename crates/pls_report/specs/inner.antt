-- What private functions say to each other.
pub mod Kept
pub mod KeptTexts
pub mod Lines
pub mod Patches
pub mod Pieces
pub mod Renewed
