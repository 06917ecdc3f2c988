-- Shortest-path trees: trees of pointers whose chains are lightest walks (any textbook on graphs).
use Rattle.std.specs.Prelude.{ℕ, ◌≤◌, List}
use Rattle.pls_configuration.specs.declared.row.NodeRow.{NodeRow}
use Rattle.pls_configuration.specs.Walk.{Walk, edges_of}
use Rattle.pls_facts.specs.Pointer.{IsChainOf}
use Rattle.pls_facts.specs.SpanningTree.{IsTree}
use Rattle.pls_facts.specs.Weight.{walk_weight}

-- the pointers make a tree, and the chain of each node weighs at most what any walk from the root
-- to the node weighs
pub record IsShortestPathTree (rows : List NodeRow) : Type 0 where
  pub tree : IsTree rows
  pub lightest : (u root count : ℕ) (chain : IsChainOf rows u root count) (others : List ℕ)
      → Walk (edges_of rows) root others u
      → walk_weight rows u chain.nodes ≤ walk_weight rows root others
