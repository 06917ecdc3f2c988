pub mod Consumed
pub mod Numerals
pub mod Written
