pub mod Levelled
pub mod Acyclic
pub mod Bipartite
pub mod laws
