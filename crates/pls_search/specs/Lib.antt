pub mod Depths
pub mod PointedPlace
pub mod SubtreeSizes
pub mod Distances
pub mod inner
