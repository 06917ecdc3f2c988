pub mod Snapshot
pub mod After
pub mod Rechecked
pub mod inner
