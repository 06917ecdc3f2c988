-- What private functions say to each other.
pub mod Planned
