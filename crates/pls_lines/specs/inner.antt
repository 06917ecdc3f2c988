-- What private functions say to each other.
pub mod ListScan
pub mod Digits
