pub mod Agreeing
pub mod Judged
pub mod Buildable
pub mod KnownMaps
pub mod Lent
mod AcceptedMaps
