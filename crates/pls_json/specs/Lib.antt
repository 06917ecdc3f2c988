pub mod Json
pub mod inner
