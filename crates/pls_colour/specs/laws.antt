pub mod LevelLaws
pub mod AcyclicLaws
pub mod ColourLaws
pub mod BipartiteLaws
