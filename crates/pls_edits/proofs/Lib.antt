pub mod LineTexts
pub mod Told
