-- The looks at a round in which labels change: one for each line that asks for it.
use Rattle.std.specs.Prelude.{ℕ, ◌+◌, true, if◌then◌else◌, Bool, List, [], ◌∷◌, ◌++◌}
use Rattle.pls_configuration.specs.declared.limits.TheConstants.{MAX_BITS, MAX_LINES}
use Rattle.pls_configuration.specs.declared.row.NodeRow.{NodeRow}
use Rattle.pls_configuration.specs.declared.status.Status.TheVariants.{Done, No}
use Rattle.pls_configuration.specs.declared.verdict.Verdict.{Verdict}
use Rattle.pls_labels.specs.Seen.{Seen}
use Rattle.pls_sim.specs.declared.outcome.Outcome.{Outcome}
use Rattle.pls_report.specs.Look.{look_is_well, look_text}
use Rattle.pls_closing.specs.Closing.{is_closed}
use Rattle.pls_watch_part.specs.declared.watch_event.WatchEvent.{WatchEvent}
use Rattle.pls_watch_part.specs.declared.watch_event.WatchLine.{WatchLine}
use Rattle.pls_watch.specs.Watching.{Watched, look_of}
use Rattle.pls_inputs.specs.Parts.{Input, labels_in, rows_in, watch_in}
use Rattle.pls_app.specs.Said.{Answer}
use Rattle.pls_watch_part.specs.declared.watch_event.WatchLine.TheVariants.{Event, Look}

-- a network with these labels at the start, after these events; it takes as many as an input may
-- have, so that none of them is refused for want of room
abbrev pub watched_after : List NodeRow → List (List Bool) → List WatchEvent → Watched
watched_after rows labels events = record {
  network = rows;
  start = labels;
  most = MAX_LINES;
  most_relabels = MAX_LINES;
  most_bits = MAX_BITS;
  events = events;
}

-- what a look shows after these events: of each node its identity, its outcome and its stale ports
abbrev pub look_after : (Seen → Verdict) → List NodeRow → List (List Bool) → List WatchEvent
    → List (ℕ × Outcome × List ℕ)
look_after judge rows labels events = look_of judge (watched_after rows labels events)

-- what the looks show that lines ask for, behind these events
abbrev pub looks_behind : (List WatchEvent → List (ℕ × Outcome × List ℕ)) → List WatchEvent
    → List WatchLine → List (List (ℕ × Outcome × List ℕ))
looks_behind shown before [] = []
looks_behind shown before (Event event ∷ later) =
    looks_behind shown (before ++ event ∷ []) later
looks_behind shown before (Look ∷ later) = shown before ∷ looks_behind shown before later

-- what the looks of an input show
abbrev pub looks_in : (Seen → Verdict) → Input → List (List (ℕ × Outcome × List ℕ))
looks_in judge input =
    looks_behind (look_after judge (rows_in input) (labels_in input)) [] (watch_in input)

-- the text of looks, the first of which has this number
abbrev pub looks_text : ℕ → List (List (ℕ × Outcome × List ℕ)) → List ℕ
looks_text number [] = []
looks_text number (look ∷ later) = look_text number look ++ looks_text (number + 1) later

-- at the last look all nodes accept, and no port is stale; there is always one
abbrev pub looks_end_well : List (List (ℕ × Outcome × List ℕ)) → Bool
looks_end_well looks = is_closed look_is_well true looks

-- the answer with looks
abbrev pub looks_answer : List (List (ℕ × Outcome × List ℕ)) → Answer
looks_answer looks = record {
  status = if looks_end_well looks then Done else No;
  text = looks_text 1 looks;
}
