-- The laws of the line and of the part.
pub mod WatchLaws
