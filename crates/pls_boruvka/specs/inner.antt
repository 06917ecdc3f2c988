-- What private functions say to each other.
pub mod Tops
pub mod Choices
pub mod Chosen
pub mod Round
pub mod Kept
