pub mod Builtin
pub mod Judges
