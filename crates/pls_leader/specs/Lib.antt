pub mod Rooted
pub mod Leader
pub mod Count
pub mod laws
pub mod inner
