-- What private functions say to each other.
pub mod Reading
pub mod KeptLevel
pub mod Glance
pub mod OnePass
