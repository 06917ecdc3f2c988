-- The labels of a watch in one store: the first of all nodes in their order, and then each as it is
-- given.
use Rattle.std.specs.Prelude.{◌≡◌, ℕ, ◌+◌, ◌*◌, ◌≤◌, ◌^◌, Bool, List, [], ◌∷◌, length, take, slice_index_or}
use Rattle.pls_configuration.specs.declared.row.NodeRow.{NodeRow}
use Rattle.pls_configuration.specs.Configuration.{IsNetwork}
use Rattle.pls_labels.specs.Stored.{Stored}
use Rattle.pls_watch_part.specs.declared.watch_event.WatchEvent.{WatchEvent}
use Rattle.pls_watch_part.specs.declared.watch_event.WatchEvent.TheVariants as Watches
use Rattle.pls_watch_part.specs.WatchText.{watch_event}
use Rattle.pls_watch.specs.declared.turn.Turn.{Turn}
use Rattle.pls_watch.specs.declared.turn.Turn.TheVariants.{Plain, Relabel}
use Rattle.pls_watch.specs.Labelled.{bits_given}
use Rattle.pls_watch.specs.Turning.{Turned}
use Rattle.pls_watch.specs.Watching.{Watched}
use Rattle.pls_watch.specs.inner.Numbers.{relabelled}

-- the events of the turns, where these are the labels that are given, from one of this place on
abbrev pub spelled : (ℕ → List Bool) → ℕ → List Turn → List WatchEvent
spelled label place [] = []
spelled label place (Plain event ∷ turns) = watch_event event ∷ spelled label place turns
spelled label place (Relabel node ∷ turns) =
    Watches.Relabel node (label place) ∷ spelled label (place + 1) turns

-- the label that is given at a place, which stands behind those of all nodes
abbrev pub given_label : ℕ → List (List Bool) → ℕ → List Bool
given_label nodes labels place = slice_index_or labels (nodes + place) []

-- the events that were taken
abbrev pub events_of : Turned → List (List Bool) → List WatchEvent
events_of turned labels = spelled (given_label (length turned.network) labels) 0 turned.turns

-- what a watch is seen as, by what it keeps
abbrev pub watched_by : Turned → Stored → ℕ → ℕ → Watched
watched_by turned stored relabels bits = record {
  network = turned.network;
  start = take (length turned.network) stored.labels;
  most = turned.most;
  most_relabels = relabels;
  most_bits = bits;
  events = events_of turned stored.labels;
}

-- the store has room for as many labels and bits as are still taken
pub record IsStocked (rows : List NodeRow) (turned : Turned) (stored : Stored)
    (most_relabels most_bits relabels relabel_bits : ℕ) : Type 0 where
  pub valid : IsNetwork turned.network
  pub network : turned.network ≡ rows
  pub long : length stored.labels ≡ length rows + most_relabels
  pub count : relabels ≡ length (relabelled turned.turns)
  pub few : relabels ≤ most_relabels
  pub sum : relabel_bits ≡ bits_given (events_of turned stored.labels)
  pub few_bits : relabel_bits ≤ most_bits
  pub room : most_bits + 64 * most_relabels ≤ stored.spare + relabel_bits + 64 * relabels
  pub small : most_relabels ≤ 1048576
  pub small_bits : most_bits ≤ 2 ^ 28
