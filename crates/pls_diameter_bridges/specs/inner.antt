pub mod Reaching
pub mod Crossing
pub mod Orientation
