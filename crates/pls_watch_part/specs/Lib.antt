pub mod WatchText
pub mod inner
pub mod laws
