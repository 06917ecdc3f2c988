pub mod Items
pub mod Part
mod PartViews
pub mod Apart
pub mod Local
mod Worked
mod Entering
mod Filling
mod Numbering
mod Chaining
mod Spread
mod Sorting
mod Putting
mod Marking
pub mod Whole
mod Bounds
pub mod Partition
pub mod OneMarking
pub mod Empty
mod PartPlaces
mod PartSize
mod One
