-- What a node knows of the labels: its own newest one, and those that it holds of its neighbours.
use Rattle.std.specs.Prelude.{◌≡◌, ℕ, ◌+◌, ◌<◌, All, Bool, true, false, List, [], map, length, slice_get, slice_index_or, Some}
use Rattle.pls_configuration.specs.declared.row.Port.{Port}
use Rattle.pls_configuration.specs.declared.row.NodeRow.{NodeRow}
use Rattle.pls_graph.specs.Places.{beside}
use Rattle.pls_sim.specs.Schedule.{has_heard}
use Rattle.pls_watch.specs.declared.port_state.PortState.{PortState}
use Rattle.pls_watch.specs.declared.port_state.PortState.TheVariants.{Unheard, Stale, Fresh}
use Rattle.pls_watch.specs.declared.turn.Turn.{Turn}
use Rattle.pls_watch.specs.Labelled.{turns_of}
use Rattle.pls_watch.specs.Versions.{held, is_fresh, newest, plain_of}
use Rattle.pls_watch.specs.Watching.{Watched}
use Rattle.pls_watch.specs.inner.Numbers.{IsLabel}

-- the labels of these numbers
abbrev pub known_labels : List (List Bool) → List ℕ → List (List Bool)
known_labels labels numbers = map (λ number. slice_index_or labels number []) numbers

-- a number for each node, of a label that there is
pub record IsTable (watched : Watched) (numbers : List ℕ) : Type 0 where
  pub long : length numbers ≡ length watched.network
  pub within : All (λ number. number < length watched.network + watched.most_relabels) numbers

-- the numbers beside the node at a place, so far, are those of what it holds
abbrev pub AreKnown : List NodeRow → List Turn → ℕ → NodeRow → ℕ → List ℕ → Type 0
AreKnown rows turns place row count numbers =
    (p : ℕ) (at : Port) (version : ℕ) → p < count → slice_get row.ports p ≡ Some at
    → held rows turns row.id at.nbr ≡ Some version
    → IsLabel rows turns at.nbr version
    (slice_index_or numbers (slice_index_or (beside rows place) p 0) 0)

-- the numbers at the places of a node and of its neighbours are those of what it knows
pub record IsKnown (watched : Watched) (place : ℕ) (row : NodeRow) (numbers : List ℕ) : Type 0 where
  pub own : IsLabel watched.network (turns_of watched.events) row.id
      (newest (turns_of watched.events) row.id) (slice_index_or numbers place 0)
  pub others : AreKnown watched.network (turns_of watched.events) place row (length row.ports)
      numbers

-- something was heard
abbrev pub is_heard : PortState → Bool
is_heard Unheard = false
is_heard Stale = true
is_heard Fresh = true

-- what was heard, if anything was, is the newest
abbrev pub is_newest : PortState → Bool
is_newest Unheard = true
is_newest Stale = false
is_newest Fresh = true

-- what a node has heard from a neighbour
pub record IsPortState (rows : List NodeRow) (turns : List Turn) (node neighbour : ℕ)
    (state : PortState) : Type 0 where
  pub heard : has_heard rows (plain_of turns) node neighbour ≡ is_heard state
  pub fresh : is_fresh rows turns node neighbour ≡ is_newest state
