pub mod FormulaText
pub mod RuleText
pub mod FieldNames
pub mod Refused
pub mod inner
pub mod laws
