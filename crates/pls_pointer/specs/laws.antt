pub mod PointingLaws
pub mod TreeLaws
pub mod ForestLaws
