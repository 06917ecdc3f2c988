-- Touched nodes as flags by place.
use Rattle.std.specs.Prelude.{◌≡◌, ℕ, zero, suc, ◌==◌, ◌||◌, Bool, true, false, List, [], ◌∷◌, length, slice_get, Some}
use Rattle.std.specs.List.{list_any}
use Rattle.pls_configuration.specs.declared.row.Port.{Port}
use Rattle.pls_configuration.specs.declared.row.NodeRow.{NodeRow}
use Rattle.pls_configuration.specs.declared.verdict.Verdict.{Verdict}
use Rattle.pls_labels.specs.Seen.{Seen, views}

-- one of the ports names the node
abbrev pub names : List Port → ℕ → Bool
names ports node = list_any (λ port. node == port.nbr) ports

-- the node of the row, or one that its ports name
abbrev pub beside_itself : NodeRow → ℕ → Bool
beside_itself row node = (row.id == node) || names row.ports node

-- the identities whose flag is set, in their order
abbrev pub marked : List ℕ → List Bool → List ℕ
marked [] flags = []
marked (id ∷ ids) [] = []
marked (id ∷ ids) (true ∷ flags) = id ∷ marked ids flags
marked (id ∷ ids) (false ∷ flags) = marked ids flags

-- the flags, of which the first so many are taken back
abbrev pub cleared : ℕ → List Bool → List Bool
cleared zero flags = flags
cleared (suc i) [] = []
cleared (suc i) (flag ∷ flags) = false ∷ cleared i flags

-- how many of the first flags are set
abbrev pub set_among : ℕ → List Bool → ℕ
set_among zero flags = 0
set_among (suc i) [] = 0
set_among (suc i) (true ∷ flags) = suc (set_among i flags)
set_among (suc i) (false ∷ flags) = set_among i flags

-- for each node whose flag is not set its identity and its verdict on its view are kept
abbrev pub AreCurrent : (Seen → Verdict) → List NodeRow → List (List Bool) → List Bool
    → List (ℕ × Verdict) → Type 0
AreCurrent judge rows labels flags kept =
    (k : ℕ) (view : Seen) → slice_get (views rows labels) k ≡ Some view
    → slice_get flags k ≡ Some false → slice_get kept k ≡ Some (view.id, judge view)

-- the flags of the rows whose identities pass are set too, and no other
pub record MarksMore (passes : ℕ → Bool) (rows : List NodeRow) (old new : List Bool) : Type 0 where
  pub as_many : length new ≡ length old
  pub each : (k : ℕ) (row : NodeRow) (flag : Bool) → slice_get rows k ≡ Some row
      → slice_get old k ≡ Some flag → slice_get new k ≡ Some (flag || passes row.id)

-- of the flags of the rows whose identities pass none is set, and none is set that was not
pub record ClearsSome (passes : ℕ → Bool) (rows : List NodeRow) (old new : List Bool) : Type 0 where
  pub as_many : length new ≡ length old
  pub each : (k : ℕ) (row : NodeRow) → slice_get rows k ≡ Some row → slice_get new k ≡ Some true
      → (slice_get old k ≡ Some true) × (passes row.id ≡ false)

-- the flags at the places are set too, and no other
pub record SetsAt (places : List ℕ) (old new : List Bool) : Type 0 where
  pub as_many : length new ≡ length old
  pub each : (k : ℕ) (flag : Bool) → slice_get old k ≡ Some flag
      → slice_get new k ≡ Some (flag || list_any (λ place. k == place) places)

-- where a node is noted, it and its neighbours are all touched
pub record AreAround (rows : List NodeRow) (flags around : List Bool) : Type 0 where
  pub as_many : length around ≡ length rows
  pub each : (k j : ℕ) (row other : NodeRow) → slice_get rows k ≡ Some row
      → slice_get around k ≡ Some true → slice_get rows j ≡ Some other
      → beside_itself row other.id ≡ true → slice_get flags j ≡ Some true

-- one label, one flag, one note and one verdict a node
pub record MatchRows (rows : List NodeRow) (labels : List (List Bool)) (flags around : List Bool)
    (kept : List (ℕ × Verdict)) : Type 0 where
  pub a_label : length labels ≡ length rows
  pub a_flag : length flags ≡ length rows
  pub a_verdict : length kept ≡ length rows
  pub noted : AreAround rows flags around
