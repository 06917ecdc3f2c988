-- How far apart the nodes of a network are (any textbook on graphs).
use Rattle.std.specs.Prelude.{ℕ, ◌≤◌, List, length, Contains}
use Rattle.pls_configuration.specs.declared.row.NodeRow.{NodeRow}
use Rattle.pls_configuration.specs.Configuration.{ids_of}
use Rattle.pls_configuration.specs.Walk.{Edge, Walk, edges_of}

-- some walk of at most so many edges begins at u and ends at v
abbrev pub AreWithin : List Edge → ℕ → ℕ → ℕ → Type 0
AreWithin edges most u v = (nodes : List ℕ) × Walk edges u nodes v × (length nodes ≤ most)

-- any two nodes are the ends of a walk of at most so many edges
abbrev pub HasDiameterAtMost : ℕ → List NodeRow → Type 0
HasDiameterAtMost most rows =
    (u v : ℕ) → Contains (ids_of rows) u → Contains (ids_of rows) v
    → AreWithin (edges_of rows) most u v
