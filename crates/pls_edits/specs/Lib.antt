pub mod Edited
pub mod EditsText
pub mod inner
pub mod laws
