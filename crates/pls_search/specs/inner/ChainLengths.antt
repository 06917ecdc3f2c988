-- The length of the chain of one node.
use Rattle.std.specs.Prelude.{◌≡◌, ℕ, List, slice_get, Some}
use Rattle.pls_configuration.specs.declared.row.NodeRow.{NodeRow}
use Rattle.pls_facts.specs.Pointer.{IsChainOf}

-- the chain of the node at a place ends after so many pointers
abbrev pub IsDepth : List NodeRow → ℕ → ℕ → Type 0
IsDepth rows place count =
    (row : NodeRow) → slice_get rows place ≡ Some row
    → (last : ℕ) × IsChainOf rows row.id last count
