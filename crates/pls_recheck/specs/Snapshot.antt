-- A network and its labels while they are edited, with the nodes that are to be judged again and
-- the verdicts of the others.
use Rattle.std.specs.Prelude.{◌≡◌, ℕ, ◌+◌, ◌<◌, ◌⊎◌, ◌==◌, Bool, false, List, drop, length, slice_get, Some}
use Rattle.std.specs.List.{list_any}
use Rattle.pls_configuration.specs.declared.row.NodeRow.{NodeRow}
use Rattle.pls_configuration.specs.declared.verdict.Verdict.{Verdict}
use Rattle.pls_streams.specs.Steps.{up_by}
use Rattle.pls_labels.specs.Seen.{Seen, views}

-- the network, the labels in the order of its rows, the identities of the touched nodes in their
-- order, and for each node an identity and a verdict, as it was judged last
pub record Snapshot : Type 0 where
  pub network : List NodeRow
  pub labels : List (List Bool)
  pub touched : List ℕ
  pub kept : List (ℕ × Verdict)

-- the number is on the list
abbrev pub is_number_among : List ℕ → ℕ → Bool
is_number_among numbers number = list_any (λ other. number == other) numbers

-- for each node that is not touched its identity and its verdict on its present view are kept
abbrev pub IsCurrent : (Seen → Verdict) → Snapshot → Type 0
IsCurrent judge now =
    (place : ℕ) (view : Seen) → slice_get (views now.network now.labels) place ≡ Some view
    → is_number_among now.touched view.id ≡ false
    → slice_get now.kept place ≡ Some (view.id, judge view)

-- the judge's count and the counter of steps rose by so many, or both by one more
pub record RiseTogether (checked spent spent_then steps steps_then : ℕ) : Type 0 where
  pub rose : ℕ
  pub rose_is : (rose ≡ checked) ⊎ (rose ≡ checked + 1)
  pub spent_is : spent_then ≡ up_by rose spent
  pub steps_are : steps_then ≡ up_by rose steps

-- a round that lacked memory: the first nodes were checked, but not all, and the judge's count and
-- the counter of steps rose by as many, or by one more
pub record EndsEarly (touched left : List ℕ) (spent spent_then steps steps_then : ℕ) : Type 0 where
  pub checked : ℕ
  pub not_all : checked < length touched
  pub left_is : left ≡ drop checked touched
  pub rise : RiseTogether checked spent spent_then steps steps_then
