pub mod Told
pub mod LineTexts
mod Worked
