-- What is still true of the rows of the last look.
use Rattle.std.specs.Prelude.{◌≡◌, ◌≢◌, ◌⊎◌, ℕ, ◌+◌, ◌==◌, Bool, true, false, List, Option, length, slice_get, slice_index_or, Some}
use Rattle.std.specs.Option.{option_map_or}
use Rattle.pls_configuration.specs.declared.row.Port.{Port}
use Rattle.pls_configuration.specs.declared.row.NodeRow.{NodeRow}
use Rattle.pls_configuration.specs.declared.verdict.Verdict.{Verdict}
use Rattle.pls_graph.specs.Places.{beside}
use Rattle.pls_labels.specs.Seen.{Seen}
use Rattle.pls_sim.specs.declared.outcome.Outcome.{Outcome}
use Rattle.pls_watch_part.specs.declared.watch_event.WatchEvent.{WatchEvent}
use Rattle.pls_watch_part.specs.declared.watch_event.WatchEvent.TheVariants as Watches
use Rattle.pls_watch.specs.declared.change.Change.{Change}
use Rattle.pls_watch.specs.declared.change.Change.TheVariants.{Nothing, Beside, Held, Label}
use Rattle.pls_watch.specs.Labelled.{turn_of, turns_of}
use Rattle.pls_watch.specs.declared.turn.Turn.{Turn}
use Rattle.pls_watch.specs.Versions.{held, newest, relabels}
use Rattle.pls_watch.specs.Watching.{Watched, outcome_in, stale_in, watching}

-- what a look shows of a node
abbrev pub look_row : (Seen → Verdict) → Watched → NodeRow → ℕ × Outcome × List ℕ
look_row judge watched row = (row.id, outcome_in judge watched row, stale_in watched row)

-- after the event a node holds what it held, and it got no label
pub record KnowsSame (watched : Watched) (event : WatchEvent) (node : ℕ) : Type 0 where
  pub holds : (neighbour : ℕ)
      → held watched.network (turns_of (watching event watched).events) node neighbour
      ≡ held watched.network (turns_of watched.events) node neighbour
  pub stays : relabels node (turn_of event) ≡ false

-- the event gives a label
abbrev pub is_relabel : WatchEvent → Bool
is_relabel (Watches.Emit node port) = false
is_relabel (Watches.Arrive number) = false
is_relabel (Watches.Restart node) = false
is_relabel (Watches.Relabel node bits) = true

-- what was shown of the outcome of such a node is still true
abbrev pub keeps_outcome : Change → Bool
keeps_outcome Nothing = true
keeps_outcome Beside = true
keeps_outcome Held = false
keeps_outcome Label = false

-- what of a node changed, where it holds something else
abbrev pub with_held : Change → Change
with_held Nothing = Held
with_held Beside = Held
with_held Held = Held
with_held Label = Label

-- what of a node changed, where a neighbour got a label
abbrev pub with_beside : Change → Change
with_beside Nothing = Beside
with_beside Beside = Beside
with_beside Held = Held
with_beside Label = Label

-- a node holds the newest version of a neighbour's label
abbrev pub holds_newest : List NodeRow → List Turn → ℕ → ℕ → Bool
holds_newest rows turns node neighbour =
    option_map_or (λ version. version == newest turns neighbour) (held rows turns node neighbour)
    false

-- a node holds the version of a neighbour's label before its newest
abbrev pub holds_previous : List NodeRow → List Turn → ℕ → ℕ → Bool
holds_previous rows turns node neighbour =
    option_map_or (λ version. version + 1 == newest turns neighbour)
    (held rows turns node neighbour) false

-- something is noted of each neighbour that holds the version before the newest of the label of the
-- node at a place
abbrev pub ArePreviousNoted : Watched → List Change → ℕ → Type 0
ArePreviousNoted watched changes place =
    (row : NodeRow) (p : ℕ) (at : Port) → slice_get watched.network place ≡ Some row
    → slice_get row.ports p ≡ Some at
    → holds_previous watched.network (turns_of watched.events) at.nbr row.id ≡ true
    → slice_get changes (slice_index_or (beside watched.network place) p 0) ≢ Some Nothing

-- where a label of a node is noted, something is noted of each neighbour that holds the newest
abbrev pub AreLabelsNoted : Watched → List Change → Type 0
AreLabelsNoted watched changes =
    (place p : ℕ) (row : NodeRow) (at : Port) → slice_get changes place ≡ Some Label
    → slice_get watched.network place ≡ Some row → slice_get row.ports p ≡ Some at
    → slice_get changes (slice_index_or (beside watched.network place) p 0) ≡ Some Nothing
    → holds_newest watched.network (turns_of watched.events) at.nbr row.id ≡ false

-- what was noted stays noted, and no outcome is kept that was not
pub record IsMoreNoted (old new : List Change) : Type 0 where
  pub as_many : length new ≡ length old
  pub nothing : (i : ℕ) → slice_get new i ≡ Some Nothing → slice_get old i ≡ Some Nothing
  pub keeps : (i : ℕ) (change : Change) → slice_get new i ≡ Some change
      → keeps_outcome change ≡ true
      → (before : Change) × (slice_get old i ≡ Some before) × (keeps_outcome before ≡ true)

-- what an event leaves of the changes, where it changes something for the node at a place
pub record IsNoted (watched : Watched) (event : WatchEvent) (place : Option ℕ)
    (old new : List Change) : Type 0 where
  pub more : IsMoreNoted old new
  pub labels : (i : ℕ) → slice_get new i ≡ Some Label
      → (slice_get old i ≡ Some Label) ⊎ ((is_relabel event ≡ true) × (place ≡ Some i))
  pub here : (i : ℕ) → place ≡ Some i
      → (change : Change) × (slice_get new i ≡ Some change) × (keeps_outcome change ≡ false)
  pub around : (i : ℕ) → is_relabel event ≡ true → place ≡ Some i
      → (slice_get old i ≡ Some Label) ⊎ ArePreviousNoted watched new i

-- of each node of which nothing changed the row is that of the last look, and its outcome is where
-- no more than a neighbour's label did
pub record IsCurrent (judge : Seen → Verdict) (watched : Watched) (changes : List Change)
    (rows : List (ℕ × Outcome × List ℕ)) : Type 0 where
  pub each : length changes ≡ length watched.network
  pub all : length rows ≡ length watched.network
  pub outcomes : (i : ℕ) (row : NodeRow) (change : Change) → slice_get watched.network i ≡ Some row
      → slice_get changes i ≡ Some change → keeps_outcome change ≡ true
      → (stale : List ℕ) × (slice_get rows i ≡ Some (row.id, outcome_in judge watched row, stale))
  pub stales : (i : ℕ) (row : NodeRow) → slice_get watched.network i ≡ Some row
      → slice_get changes i ≡ Some Nothing
      → slice_get rows i ≡ Some (look_row judge watched row)
  pub labels : AreLabelsNoted watched changes

-- the row of the node at a place is as it is now, and the others are as they were
pub record IsRenewed (judge : Seen → Verdict) (watched : Watched) (place : ℕ)
    (old new : List (ℕ × Outcome × List ℕ)) : Type 0 where
  pub as_many : length new ≡ length old
  pub here : (row : NodeRow) → slice_get watched.network place ≡ Some row
      → slice_get new place ≡ Some (look_row judge watched row)
  pub others : (i : ℕ) → i ≢ place → slice_get new i ≡ slice_get old i
