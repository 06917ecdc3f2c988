pub mod MarkTests
pub mod PointerTests
pub mod SearchTests
pub mod laws
