pub mod Flat
pub mod Keeping
pub mod KeptTexts
pub mod Lines
pub mod Kept
pub mod Counts
pub mod LookTexts
pub mod Patching
pub mod Renewing
pub mod Texts
pub mod Well
mod Worked
