-- Edges between nodes.
use Rattle.std.specs.Prelude.{ℕ, List, Contains}
use Rattle.pls_configuration.specs.Walk.{Edge}
use Rattle.pls_facts.specs.SpanningTree.{AreDistinct}

-- the nodes differ, and each edge joins two of them
pub record IsGraph (edges : List Edge) (nodes : List ℕ) : Type 0 where
  pub distinct : AreDistinct nodes
  pub ends : (edge : Edge) → Contains edges edge
      → Contains nodes edge.a × Contains nodes edge.b
