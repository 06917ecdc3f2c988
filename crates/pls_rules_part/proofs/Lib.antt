pub mod BegunLines
pub mod FieldNames
pub mod FirstByte
pub mod Taken
pub mod Told
pub mod Additions
pub mod Errors
pub mod Accepted
pub mod Behind
pub mod RulesParts
pub mod Printed
pub mod Printables
pub mod WholeRules
mod Worked
