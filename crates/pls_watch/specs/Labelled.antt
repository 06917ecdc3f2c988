-- The labels that nodes get while a round is played.
use Rattle.std.specs.Prelude.{ℕ, ◌==◌, Bool, if◌then◌else◌, List, [], ◌∷◌, map, flat_map, length, sum_by, slice_index_or}
use Rattle.pls_schedule.specs.declared.event.Event.TheVariants as Events
use Rattle.pls_watch_part.specs.declared.watch_event.WatchEvent.{WatchEvent}
use Rattle.pls_watch_part.specs.declared.watch_event.WatchEvent.TheVariants.{Emit, Arrive, Restart, Relabel}
use Rattle.pls_watch.specs.declared.turn.Turn.{Turn}
use Rattle.pls_watch.specs.declared.turn.Turn.TheVariants as Turns

-- an event as a turn: what happens, but for the bits of a label
abbrev pub turn_of : WatchEvent → Turn
turn_of (Emit node port) = Turns.Plain (Events.Emit node port)
turn_of (Arrive number) = Turns.Plain (Events.Arrive number)
turn_of (Restart node) = Turns.Plain (Events.Restart node)
turn_of (Relabel node bits) = Turns.Relabel node

-- events as turns, in their order
abbrev pub turns_of : List WatchEvent → List Turn
turns_of events = map turn_of events

-- the label that the event gives the node
abbrev pub given_to : ℕ → WatchEvent → List (List Bool)
given_to node (Emit other port) = []
given_to node (Arrive number) = []
given_to node (Restart other) = []
given_to node (Relabel other bits) = if other == node then bits ∷ [] else []

-- the labels that a node gets after its first, in their order
abbrev pub later_labels : List WatchEvent → ℕ → List (List Bool)
later_labels events node = flat_map (given_to node) events

-- a version of the label of a node, where the first labels are these
abbrev pub label_in_version : (ℕ → List Bool) → List WatchEvent → ℕ → ℕ → List Bool
label_in_version first events node version =
    slice_index_or (first node ∷ later_labels events node) version []

-- the label that the event gives
abbrev pub given_by : WatchEvent → List (List Bool)
given_by (Emit other port) = []
given_by (Arrive number) = []
given_by (Restart other) = []
given_by (Relabel other bits) = bits ∷ []

-- the labels that are given to any node, in their order
abbrev pub labels_given : List WatchEvent → List (List Bool)
labels_given events = flat_map given_by events

-- how many bits the labels have together that are given to any node
abbrev pub bits_given : List WatchEvent → ℕ
bits_given events = sum_by length (labels_given events)
