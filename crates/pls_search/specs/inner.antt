-- What private functions say to each other.
pub mod Noting
pub mod Passing
pub mod Ahead
pub mod ChainLengths
