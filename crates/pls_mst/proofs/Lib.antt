pub mod Fronts
pub mod Comparisons
pub mod Looked
pub mod MorePorts
pub mod Made
pub mod Worked
