-- The weights of walks, and the least of them between two nodes (any textbook on graphs).
use Rattle.std.specs.Prelude.{◌≡◌, ℕ, ◌+◌, ◌≤◌, List, [], ◌∷◌, option_and_then}
use Rattle.std.specs.Option.{option_map_or}
use Rattle.pls_configuration.specs.declared.row.NodeRow.{NodeRow}
use Rattle.pls_configuration.specs.Configuration.{port_to, row_of}
use Rattle.pls_configuration.specs.Walk.{Walk, edges_of}

-- the weight of the edge between two nodes, as the port of u to v states it; 0 where there is none
abbrev pub edge_weight : List NodeRow → ℕ → ℕ → ℕ
edge_weight rows u v =
    option_map_or (λ port. port.weight) (option_and_then (λ row. port_to row v) (row_of rows u)) 0

-- what the edges of the walk from u along the listed nodes weigh together
abbrev pub walk_weight : List NodeRow → ℕ → List ℕ → ℕ
walk_weight rows u [] = 0
walk_weight rows u (next ∷ nodes) = edge_weight rows u next + walk_weight rows next nodes

-- so much is the least weight of any walk from u to v
pub record IsDistance (rows : List NodeRow) (u v weight : ℕ) : Type 0 where
  pub nodes : List ℕ
  pub walk : Walk (edges_of rows) u nodes v
  pub weighs : walk_weight rows u nodes ≡ weight
  pub least : (others : List ℕ) → Walk (edges_of rows) u others v
      → weight ≤ walk_weight rows u others
