-- How the looks of a watch come about, line by line.
use Rattle.std.specs.Prelude.{◌≡◌, ℕ, ◌+◌, ◌≤◌, Bool, List, [], ◌∷◌, length}
use Rattle.std.specs.List.{flat_map}
use Rattle.pls_configuration.specs.declared.row.NodeRow.{NodeRow}
use Rattle.pls_configuration.specs.declared.verdict.Verdict.{Verdict}
use Rattle.pls_labels.specs.Seen.{Seen}
use Rattle.pls_sim.specs.declared.outcome.Outcome.{Outcome}
use Rattle.pls_watch_part.specs.declared.watch_event.WatchEvent.{WatchEvent}
use Rattle.pls_watch_part.specs.declared.watch_event.WatchLine.{WatchLine}
use Rattle.pls_watch_part.specs.declared.watch_event.WatchLine.TheVariants.{Event, Look}
use Rattle.pls_watch.specs.Labelled.{bits_given, labels_given}
use Rattle.pls_watch.specs.Watching.{Watched, look_of, watching}
use Rattle.pls_inputs.specs.Parts.{Input, labels_in, rows_in, watch_in}
use Rattle.pls_inputs.specs.Order.{watch_heading}
use Rattle.pls_app.specs.Looks.{looks_end_well, looks_text}

-- an input with these rows, labels and lines of a watch, the first in this line
pub record IsWatchInput (rows : List NodeRow) (labels : List (List Bool)) (lines : List WatchLine)
    (line : ℕ) (input : Input) : Type 0 where
  pub net : rows_in input ≡ rows
  pub store : labels_in input ≡ labels
  pub list : watch_in input ≡ lines
  pub at : line ≡ watch_heading input + 1

-- there is room for these events behind those that were taken
pub record HasRoomForEvents (watched : Watched) (events : List WatchEvent) : Type 0 where
  pub few_events : length watched.events + length events ≤ watched.most
  pub few_relabels : length (labels_given watched.events) + length (labels_given events)
      ≤ watched.most_relabels
  pub few_bits : bits_given watched.events + bits_given events ≤ watched.most_bits

-- what is watched behind a line
abbrev pub watched_behind : WatchLine → Watched → Watched
watched_behind (Event event) watched = watching event watched
watched_behind Look watched = watched

-- what a line shows
abbrev pub shown_at : (Seen → Verdict) → Watched → WatchLine → List (List (ℕ × Outcome × List ℕ))
shown_at judge watched (Event event) = []
shown_at judge watched Look = look_of judge watched ∷ []

-- these are the texts of looks, and whether all was well at the last of them
pub record AreShown (texts : List (List ℕ)) (well : Bool)
    (looks : List (List (ℕ × Outcome × List ℕ))) : Type 0 where
  pub says : flat_map (λ text. text) texts ≡ looks_text 1 looks
  pub count : length texts ≡ length looks
  pub ends : well ≡ looks_end_well looks
