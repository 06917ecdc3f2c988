pub mod Levels
pub mod Reading
pub mod Worked
