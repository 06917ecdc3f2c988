pub mod RuleMeaning
pub mod Code
pub mod Readable
pub mod ReadLabels
pub mod FieldTable
pub mod RuleMachine
pub mod Listing
