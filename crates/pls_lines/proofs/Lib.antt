pub mod NextLine
pub mod LeadingNumbers
mod Options
pub mod WholeTexts
pub mod Passing
pub mod ListItems
pub mod ListPassed
pub mod ListKept
pub mod ListRead
pub mod BothPassed
pub mod ListOfAll
pub mod ListWritten
pub mod FormTold
