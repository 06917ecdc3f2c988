pub mod LeafLaws
pub mod Readings
pub mod Saying
pub mod Marking
