-- Two-colourings of a configuration (any textbook on graphs).
use Rattle.std.specs.Prelude.{◌≢◌, ℕ, ◌%◌, ◌==◌, Bool, true, false, not, List, Contains}
use Rattle.pls_configuration.specs.declared.row.NodeRow.{NodeRow}
use Rattle.pls_configuration.specs.Walk.{Edge, edges_of}

-- the colours that a map gives to the ends of each edge differ
abbrev pub Colours : (ℕ → Bool) → List Edge → Type 0
Colours colour edges = (edge : Edge) → Contains edges edge → colour edge.a ≢ colour edge.b

-- the nodes can be given two colours so that the ends of each edge differ
abbrev pub IsBipartite : List NodeRow → Type 0
IsBipartite rows = (colour : ℕ → Bool) × Colours colour (edges_of rows)

-- the number is odd
abbrev pub is_odd : ℕ → Bool
is_odd number = number % 2 == 1

-- two colours differ
abbrev pub differ : Bool → Bool → Bool
differ true other = not other
differ false other = other
