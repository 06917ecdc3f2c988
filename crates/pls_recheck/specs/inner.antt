pub mod AtPlace
pub mod Flags
