pub mod Writing
pub mod Stating
pub mod Verifying
pub mod Deciding
