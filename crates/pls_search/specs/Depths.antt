-- The lengths of the chains of pointers.
use Rattle.std.specs.Prelude.{◌≡◌, ℕ, List, length, slice_get, Some}
use Rattle.pls_configuration.specs.declared.row.NodeRow.{NodeRow}
use Rattle.pls_facts.specs.Pointer.{IsChainOf}

-- the length of the chain of each node, in the order of the rows
pub record AreDepths (rows : List NodeRow) (depths : List ℕ) : Type 0 where
  pub each : length depths ≡ length rows
  pub depth : (row : NodeRow) (place count : ℕ) → slice_get rows place ≡ Some row
      → slice_get depths place ≡ Some count → (last : ℕ) × IsChainOf rows row.id last count
