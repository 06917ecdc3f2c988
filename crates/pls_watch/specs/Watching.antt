-- A network whose labels change while messages are under way.
use Rattle.std.specs.Prelude.{ℕ, ◌+◌, ◌||◌, nat_le, nat_lt, Bool, false, List, [], ◌∷◌, ◌++◌, map, length, Option}
use Rattle.pls_configuration.specs.declared.row.NodeRow.{NodeRow}
use Rattle.pls_configuration.specs.declared.verdict.Verdict.{Verdict}
use Rattle.pls_configuration.specs.Configuration.{first_of, refused_if}
use Rattle.pls_labels.specs.Seen.{Seen, label_of}
use Rattle.pls_sim.specs.declared.event_error.EventError.{EventError}
use Rattle.pls_sim.specs.declared.event_error.EventError.TheVariants.{Full}
use Rattle.pls_sim.specs.declared.outcome.Outcome.{Outcome}
use Rattle.pls_watch_part.specs.declared.watch_event.WatchEvent.{WatchEvent}
use Rattle.pls_watch_part.specs.declared.watch_event.WatchEvent.TheVariants.{Emit, Arrive, Restart, Relabel}
use Rattle.pls_watch.specs.Labelled.{bits_given, label_in_version, labels_given, turn_of, turns_of}
use Rattle.pls_watch.specs.Turning.{Turned, turn_refusal}
use Rattle.pls_watch.specs.Versions.{stale, watched_outcome}

-- a network under watch: its labels at the start in the order of the nodes, the events that were
-- taken, and the room that was asked for: for how many events, relabels, and bits of their labels
pub record Watched : Type 0 where
  pub network : List NodeRow
  pub start : List (List Bool)
  pub most : ℕ
  pub most_relabels : ℕ
  pub most_bits : ℕ
  pub events : List WatchEvent

-- what is watched, after one more event
abbrev pub watching : WatchEvent → Watched → Watched
watching event watched = record watched { events = watched.events ++ event ∷ [] }

-- what is watched, but for the bits of labels
abbrev pub turned_of : Watched → Turned
turned_of watched = record {
  network = watched.network;
  most = watched.most;
  turns = turns_of watched.events;
}

-- the event is a relabel, and as many were taken as are taken in all, or its bits would be more
abbrev pub lacks_room : Watched → WatchEvent → Bool
lacks_room watched (Emit node port) = false
lacks_room watched (Arrive number) = false
lacks_room watched (Restart node) = false
lacks_room watched (Relabel node label) =
    nat_le watched.most_relabels (length (labels_given watched.events))
    || nat_lt watched.most_bits (bits_given watched.events + length label)

-- why the event does not apply, if it does not
abbrev pub watch_refusal : Watched → WatchEvent → Option EventError
watch_refusal watched event =
    first_of (refused_if (lacks_room watched event) Full
    ∷ turn_refusal (turned_of watched) (turn_of event) ∷ [])

-- a version of the label of a node
abbrev pub version_of_label : Watched → ℕ → ℕ → List Bool
version_of_label watched node version =
    label_in_version (label_of watched.network watched.start) watched.events node version

-- the outcome of a node
abbrev pub outcome_in : (Seen → Verdict) → Watched → NodeRow → Outcome
outcome_in judge watched row =
    watched_outcome judge watched.network (version_of_label watched) (turns_of watched.events) row

-- the numbers of the ports of a node whose held version is not the newest
abbrev pub stale_in : Watched → NodeRow → List ℕ
stale_in watched row = stale watched.network (turns_of watched.events) row

-- what a look shows of each node: its identity, its outcome and its stale ports
abbrev pub look_of : (Seen → Verdict) → Watched → List (ℕ × Outcome × List ℕ)
look_of judge watched =
    map (λ row. (row.id, outcome_in judge watched row, stale_in watched row)) watched.network

-- a watch with its looks: the checker, what is watched, what was shown at the last look, and the
-- texts of the looks that were kept
pub record Shown (K : Type 0) : Type 0 where
  pub checker : K
  pub watched : Watched
  pub rows : List (ℕ × Outcome × List ℕ)
  pub kept : List (List ℕ)
