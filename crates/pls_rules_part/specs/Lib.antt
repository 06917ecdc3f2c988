pub mod RulesText
pub mod RulesScan
pub mod Refusal
pub mod Printable
pub mod inner
pub mod laws
