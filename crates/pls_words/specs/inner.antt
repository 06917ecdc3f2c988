-- What private functions say to each other.
pub mod Parser
pub mod Formed
