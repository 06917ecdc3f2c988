-- What private functions say to each other.
pub mod Words
pub mod Tally
pub mod Adding
pub mod Progress
pub mod Printed
