-- Depths that lead to a root, though no pointer does.
use Rattle.std.specs.Prelude.{◌≡◌, ℕ, ◌+◌, ◌≤◌, List, Contains}
use Rattle.pls_configuration.specs.declared.row.Port.{Port}
use Rattle.pls_configuration.specs.declared.row.NodeRow.{NodeRow}
use Rattle.pls_facts.specs.Agreement.{AgreeAtPorts}

-- each node of a depth above 0 has a neighbour that is one less deep
abbrev pub FallsAtSome : List NodeRow → (ℕ → ℕ) → Type 0
FallsAtSome rows depth = (row : NodeRow) → Contains rows row → 1 ≤ depth row.id
    → (port : Port) × Contains row.ports port × (depth row.id ≡ depth port.nbr + 1)

-- neighbours name one root, each other depth falls at some neighbour, and only the root is at 0
pub record AreRooted (rows : List NodeRow) (root depth : ℕ → ℕ) : Type 0 where
  pub agree : AgreeAtPorts rows root
  pub falls : FallsAtSome rows depth
  pub at_root : (row : NodeRow) → Contains rows row → depth row.id ≡ 0 → row.id ≡ root row.id

-- there is one root, which all nodes name, and which is at depth 0 alone
pub record IsTheRoot (rows : List NodeRow) (root depth : ℕ → ℕ) (row : NodeRow) : Type 0 where
  pub in' : Contains rows row
  pub at_0 : depth row.id ≡ 0
  pub named : (other : NodeRow) → Contains rows other → root other.id ≡ row.id
  pub alone : (other : NodeRow) → Contains rows other → depth other.id ≡ 0 → other.id ≡ row.id
