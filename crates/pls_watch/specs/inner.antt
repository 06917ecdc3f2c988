-- What private functions say to each other.
pub mod Held
pub mod Columns
pub mod Numbers
pub mod Stock
pub mod Known
pub mod Current
pub mod Woven
