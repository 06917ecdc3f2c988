pub mod Generator
pub mod inner
