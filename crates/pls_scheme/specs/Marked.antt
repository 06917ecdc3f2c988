-- Labels of which each says what is right for its node.
use Rattle.std.specs.Prelude.{◌≡◌, ℕ, ◌≤◌, Bool, List, length, slice_get, Some}
use Rattle.pls_configuration.specs.declared.row.NodeRow.{NodeRow}
use Rattle.pls_numbers.specs.Shape.{IsWritable, Shape, spelling}

-- the label of each node is the spelling of one that says what is right for the node
pub record IsMarkedBy {L : Type 0} (spells : List Bool → L → Type 0)
    (says : NodeRow → L → Type 0) (rows : List NodeRow) (labels : List (List Bool)) : Type 0 where
  pub each : length labels ≡ length rows
  pub label : (place : ℕ) (row : NodeRow) (bits : List Bool) → slice_get rows place ≡ Some row
      → slice_get labels place ≡ Some bits → (label : L) × spells bits label × says row label

-- what is to be written says what is right for each node
pub record AreRight {L : Type 0} (says : NodeRow → L → Type 0) (rows : List NodeRow)
    (labels : List L) : Type 0 where
  pub each : length labels ≡ length rows
  pub label : (place : ℕ) (row : NodeRow) (label : L) → slice_get rows place ≡ Some row
      → slice_get labels place ≡ Some label → says row label

-- the label at each place is what a function says of the identity of the row there
abbrev pub AreSaidBy : {L : Type 0} → (ℕ → L) → List NodeRow → List L → Type 0
AreSaidBy {L} say rows labels =
    (place : ℕ) (row : NodeRow) (label : L) → slice_get rows place ≡ Some row
    → slice_get labels place ≡ Some label → label ≡ say row.id

-- a label can be written, and in at most so many bits
pub record Fits {L : Type 0} (shape : Shape L) (code : ℕ → List Bool) (most : ℕ) (label : L)
    : Type 0 where
  pub writable : IsWritable shape label
  pub short : length (spelling shape code label) ≤ most
