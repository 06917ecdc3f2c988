pub mod Right
pub mod Nearest
pub mod Counted
pub mod Written
