pub mod PointersWorked
pub mod SearchWorked
