-- Numbers that are summed along a tree, from each node to its parent.
use Rattle.std.specs.Prelude.{◌≡◌, ◌≢◌, ℕ, ◌+◌, ◌==◌, List, sum_by, Contains}
use Rattle.std.specs.List.{filter}
use Rattle.pls_configuration.specs.declared.row.Port.{Port}
use Rattle.pls_configuration.specs.declared.row.NodeRow.{NodeRow}

-- the root is its own parent, and that of each other node is one of its neighbours
pub record HaveParents (rows : List NodeRow) (root : ℕ) (parent : ℕ → ℕ) : Type 0 where
  pub at_root : parent root ≡ root
  pub beside : (row : NodeRow) → Contains rows row → row.id ≢ root
      → (port : Port) × Contains row.ports port × (port.nbr ≡ parent row.id)

-- what the neighbours have together whose parent the node is
abbrev pub of_children : (ℕ → ℕ) → (ℕ → ℕ) → NodeRow → ℕ
of_children parent number row =
    sum_by (λ port. number port.nbr) (filter (λ port. row.id == parent port.nbr) row.ports)

-- the number of each node is one more than what those have together whose parent it is
abbrev pub AreSummed : List NodeRow → (ℕ → ℕ) → (ℕ → ℕ) → Type 0
AreSummed rows parent number =
    (row : NodeRow) → Contains rows row → number row.id ≡ 1 + of_children parent number row
