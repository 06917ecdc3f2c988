-- The laws of the rules part.
pub mod LineLaws
pub mod SenseLaws
