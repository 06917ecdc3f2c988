-- Labels that change while messages are under way. Each label has versions, numbered from 0; an
-- emit carries the version that its node has at that moment. The words of the schedule are said of
-- the events alone; a relabel is none of them.
use Rattle.std.specs.Prelude.{ℕ, zero, suc, ◌==◌, Bool, true, false, if◌then◌else◌, max, List, [], ◌∷◌, ◌++◌, map, filter, flat_map, length, slice_index_or, Option, Some, None}
use Rattle.std.specs.Option.{option_map_or}
use Rattle.pls_configuration.specs.declared.row.NodeRow.{NodeRow}
use Rattle.pls_configuration.specs.declared.verdict.Verdict.{Verdict}
use Rattle.pls_labels.specs.Seen.{Seen, seen}
use Rattle.pls_schedule.specs.declared.event.Event.{Event}
use Rattle.pls_schedule.specs.declared.event.Event.TheVariants.{Emit, Arrive, Restart}
use Rattle.pls_sim.specs.declared.outcome.Outcome.{Outcome}
use Rattle.pls_sim.specs.Schedule.{Sent, brings, emits_of, outcome_after, sent_by, since_restart, unheard, failing_from}
use Rattle.pls_watch.specs.declared.turn.Turn.{Turn}
use Rattle.pls_watch.specs.declared.turn.Turn.TheVariants.{Plain, Relabel}

-- the event of the round that a turn is, if it is one
abbrev pub plain : Turn → List Event
plain (Plain event) = event ∷ []
plain (Relabel node) = []

-- the events of the round among the turns
abbrev pub plain_of : List Turn → List Event
plain_of turns = flat_map plain turns

-- the turn gives the node its next label
abbrev pub relabels : ℕ → Turn → Bool
relabels node (Plain event) = false
relabels node (Relabel other) = other == node

-- the newest version of the label of a node
abbrev pub newest : List Turn → ℕ → ℕ
newest turns node = length (filter (relabels node) turns)

-- the version that the turn emits, where these were before it
abbrev pub carried_by : List Turn → Turn → List ℕ
carried_by before turn = map (λ sent. newest before sent.node) (flat_map sent_by (plain turn))

-- the version that each emit carries, where these were before the turns
abbrev pub carried_from : List Turn → List Turn → List ℕ
carried_from before [] = []
carried_from before (turn ∷ later) =
    carried_by before turn ++ carried_from (before ++ turn ∷ []) later

-- the version that each emit carries
abbrev pub carried : List Turn → List ℕ
carried turns = carried_from [] turns

-- the version of the emit of a number
abbrev pub version_at : List ℕ → ℕ → ℕ
version_at versions zero = 0
version_at versions (suc place) = slice_index_or versions place 0

-- the version of the emit that arrives
abbrev pub version_of : List ℕ → Event → ℕ
version_of versions (Emit node port) = 0
version_of versions (Arrive number) = version_at versions number
version_of versions (Restart node) = 0

-- the version that the event brings from one node to another
abbrev pub brought : List NodeRow → List Sent → List ℕ → ℕ → ℕ → Event → List ℕ
brought rows emits versions from to event =
    if brings rows emits from to event then version_of versions event ∷ [] else []

-- the versions that arrived at a node from a neighbour since the last restart of the node
abbrev pub arrived : List NodeRow → List Turn → ℕ → ℕ → List ℕ
arrived rows turns node neighbour =
    flat_map (brought rows (emits_of (plain_of turns)) (carried turns) neighbour node)
    (since_restart node (plain_of turns))

-- the greatest of some numbers, or none where there are none
abbrev pub greatest_in : List ℕ → Option ℕ
greatest_in [] = None
greatest_in (number ∷ numbers) = Some (option_map_or (max number) (greatest_in numbers) number)

-- the version that a node holds of a neighbour's label
abbrev pub held : List NodeRow → List Turn → ℕ → ℕ → Option ℕ
held rows turns node neighbour = greatest_in (arrived rows turns node neighbour)

-- what a node holds of a neighbour's label, if it holds anything, is the newest
abbrev pub is_fresh : List NodeRow → List Turn → ℕ → ℕ → Bool
is_fresh rows turns node neighbour =
    option_map_or (λ version. version == newest turns neighbour) (held rows turns node neighbour)
    true

-- the numbers of all ports of a node whose held version is not the newest, in rising order
abbrev pub stale : List NodeRow → List Turn → NodeRow → List ℕ
stale rows turns row = failing_from (is_fresh rows turns row.id) 0 row.ports

-- what a node takes for the version of a label: of its own the newest, of others what it holds
abbrev pub known : List NodeRow → List Turn → ℕ → ℕ → ℕ
known rows turns node other = if other == node then newest turns node
    else option_map_or (λ version. version) (held rows turns node other) 0

-- the outcome of a node, where the labels by node and version are these
abbrev pub watched_outcome : (Seen → Verdict) → List NodeRow → (ℕ → ℕ → List Bool) → List Turn
    → NodeRow → Outcome
watched_outcome judge rows label turns row =
    outcome_after (unheard rows (plain_of turns) row)
    (judge (seen (λ other. label other (known rows turns row.id other)) row))
