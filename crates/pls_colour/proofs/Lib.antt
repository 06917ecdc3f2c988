pub mod Worked
pub mod Found
