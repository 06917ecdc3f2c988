pub mod Nearest
pub mod LevelsFrom
pub mod Saying
