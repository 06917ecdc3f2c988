pub mod DepthFrom
pub mod Found
