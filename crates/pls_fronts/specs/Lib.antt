pub mod Front
pub mod NumberFront
pub mod LetterFront
pub mod Depth
pub mod laws
