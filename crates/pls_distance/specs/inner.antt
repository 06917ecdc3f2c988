-- What private functions say to each other.
pub mod Gathering
pub mod Following
pub mod Saying
