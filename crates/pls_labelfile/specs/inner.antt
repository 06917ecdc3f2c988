-- What private functions say to each other.
pub mod HexWord
pub mod LabelsTally
