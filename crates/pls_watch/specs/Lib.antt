pub mod Versions
pub mod Turning
pub mod Labelled
pub mod Watching
pub mod inner
