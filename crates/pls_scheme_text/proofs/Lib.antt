pub mod Letters
pub mod Refusals
pub mod Worked
