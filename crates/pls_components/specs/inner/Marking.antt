-- What is known while one component after the other is marked.
use Rattle.std.specs.Prelude.{◌≡◌, ◌⊎◌, ℕ, ◌+◌, ◌*◌, ◌<◌, Bool, true, false, List, Contains, Some, length, slice_get}
use Rattle.pls_configuration.specs.declared.row.NodeRow.{NodeRow}
use Rattle.pls_configuration.specs.declared.verdict.Verdict.{Verdict}
use Rattle.pls_configuration.specs.Rising.{IsRising}
use Rattle.pls_graph.specs.declared.size.Size.{Size}
use Rattle.pls_labels.specs.Labels.{bits_together}
use Rattle.pls_labels.specs.Seen.{Seen}
use Rattle.pls_scheme.specs.Judging.{AllAccept}
use Rattle.pls_components.specs.Components.{items_at, least_id}
use Rattle.pls_components.specs.Parts.{AreWithinBound}

-- a connected network has the property, and these labels of its marker show it
pub record IsShownBy (holds : List NodeRow → Type 0)
    (marked : List NodeRow → List (List Bool) → Type 0) (judge : Seen → Verdict)
    (longest : Size → ℕ) (rows : List NodeRow) (labels : List (List Bool)) : Type 0 where
  pub has : holds rows
  pub right : marked rows labels
  pub each : length labels ≡ length rows
  pub accepted : AllAccept judge rows labels
  pub short : AreWithinBound longest rows labels

-- how many bits labels take at most, where each begins a word of its own
abbrev pub room_for : List (List Bool) → ℕ
room_for labels = bits_together labels + 64 * length labels

-- these labels stand at these places now, one behind the other, and the other labels are as before
pub record ArePutAt (places : List ℕ) (put old new : List (List Bool)) : Type 0 where
  pub size : length new ≡ length old
  pub others : (place : ℕ) → (Contains places place → ⊥) → slice_get new place ≡ slice_get old place
  pub here : items_at new places ≡ put

-- the component has the property, and its labels stand at its places now; or it lacks it, and no
-- label changed
abbrev pub IsPartMarked : (List NodeRow → Type 0) → (List NodeRow → List (List Bool) → Type 0)
    → (Seen → Verdict) → (Size → ℕ) → List NodeRow → List ℕ → List (List Bool) → List (List Bool)
    → Bool → Type 0
IsPartMarked holds marked judge longest rows places old new true =
    (put : List (List Bool)) × ArePutAt places put old new
    × IsShownBy holds marked judge longest (items_at rows places) put
IsPartMarked holds marked judge longest rows places old new false =
    (new ≡ old) × (holds (items_at rows places) → ⊥)

-- of the components before this number: the labels show the property of each, or it lacks the
-- property and its smallest identity is listed; no other identity is
pub record AreMarkedBefore (holds : List NodeRow → Type 0)
    (marked : List NodeRow → List (List Bool) → Type 0) (judge : Seen → Verdict)
    (longest : Size → ℕ) (rows : List NodeRow) (parts : List (List ℕ)) (number : ℕ)
    (labels : List (List Bool)) (ids : List ℕ) : Type 0 where
  pub size : length labels ≡ length rows
  pub done : (k : ℕ) (places : List ℕ) → k < number → slice_get parts k ≡ Some places
      → IsShownBy holds marked judge longest (items_at rows places) (items_at labels places)
      ⊎ ((holds (items_at rows places) → ⊥) × Contains ids (least_id rows places))
  pub rising : IsRising ids
  pub each : (id : ℕ) → Contains ids id → (k : ℕ) × (places : List ℕ) × (k < number)
      × (slice_get parts k ≡ Some places) × (holds (items_at rows places) → ⊥)
      × (least_id rows places ≡ id)
