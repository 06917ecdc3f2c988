-- The lines of a watch one by one, and what the looks show that they ask for.
use Rattle.std.proofs.Common.{◌≡◌, ◌∙◌, ℕ, ◌+◌, ◌<◌, ◌≤◌, Bool, true, List, [], ◌∷◌, ◌++◌, length, take, drop, get_or, Some, None, false, refl, sym, ap, arith, add-one, append-nil, append_assoc, length-append}
use Rattle.std.proofs.lemmas.Grind.{flat_map-append}
use Rattle.std.proofs.lemmas.List.{drop_all}
use Rattle.std.proofs.Math.Seq.{drop-cons}
use Rattle.std.specs.List.{sum_by}
use Rattle.std.proofs.lemmas.List.Sums.{sum_by-append, sum_by-cons, sum_by-drop_more, sum_by-take-drop}
use Rattle.pls_configuration.specs.declared.row.NodeRow.{NodeRow}
use Rattle.pls_configuration.specs.declared.verdict.Verdict.{Verdict}
use Rattle.pls_labels.specs.Seen.{Seen}
use Rattle.pls_sim.specs.declared.outcome.Outcome.{Outcome}
use Rattle.pls_report.specs.Look.{look_is_well, look_text}
use Rattle.pls_closing.specs.laws.ClosedLists.{closed_push}
use Rattle.pls_watch_part.specs.WatchText.{relabel_bits, total_relabel_bits}
use Rattle.pls_watch_part.specs.declared.watch_event.WatchEvent.{WatchEvent}
use Rattle.pls_watch_part.specs.declared.watch_event.WatchEvent.TheVariants.{Arrive, Emit, Relabel, Restart}
use Rattle.pls_watch_part.specs.declared.watch_event.WatchLine.{WatchLine}
use Rattle.pls_watch_part.specs.declared.watch_event.WatchLine.TheVariants.{Event, Look}
use Rattle.pls_watch.specs.Labelled.{bits_given, labels_given}
use Rattle.pls_watch.specs.Watching.{Watched, look_of}
use Rattle.pls_app.specs.Looks.{look_after, looks_behind, looks_text}
use Rattle.pls_app.specs.WatchRefusal.{event_of, events_of, first_refused_line, line_does_not_apply}
use Rattle.pls_app.specs.inner.Watching.{AreShown, shown_at}

-- the events of lines behind lines
pub events_more : (lines later : List WatchLine)
    → events_of (lines ++ later) ≡ events_of lines ++ events_of later
events_more [] later = refl
events_more (Event event ∷ lines) later = ap (λ events. event ∷ events) (events_more lines later)
events_more (Look ∷ lines) later = events_more lines later

-- there are at most as many as lines
pub few_events : (lines : List WatchLine) → length (events_of lines) ≤ length lines
few_events [] = omega arith
few_events (Event event ∷ lines) = omega (arith, few_events lines)
few_events (Look ∷ lines) = omega (arith, few_events lines)

-- the labels that are given by events behind events
pub labels_more : (events later : List WatchEvent)
    → labels_given (events ++ later) ≡ labels_given events ++ labels_given later
labels_more [] later = refl
labels_more (Emit node port ∷ events) later = labels_more events later
labels_more (Arrive number ∷ events) later = labels_more events later
labels_more (Restart node ∷ events) later = labels_more events later
labels_more (Relabel node bits ∷ events) later =
    ap (λ labels. bits ∷ labels) (labels_more events later)

-- there are at most as many as events
pub few_labels : (events : List WatchEvent) → length (labels_given events) ≤ length events
few_labels [] = omega arith
few_labels (Emit node port ∷ events) = omega (arith, few_labels events)
few_labels (Arrive number ∷ events) = omega (arith, few_labels events)
few_labels (Restart node ∷ events) = omega (arith, few_labels events)
few_labels (Relabel node bits ∷ events) = omega (arith, few_labels events)

-- and their bits
pub bits_more : (events later : List WatchEvent)
    → bits_given (events ++ later) ≡ bits_given events + bits_given later
bits_more events later =
    ap (sum_by (length {A = Bool})) (labels_more events later)
    ∙ sum_by-append (length {A = Bool}) (labels_given events) (labels_given later)

-- the bits that lines give are those of the labels that their events give
pub total_given : (lines : List WatchLine) → total_relabel_bits lines ≡ bits_given (events_of lines)
total_given [] = refl
total_given (line ∷ lines) =
    omega (
      arith,
      sum_by-cons relabel_bits line lines,
      bits_more (event_of line) (events_of lines),
      one line,
      total_given lines,
    )
  where
    one : (line : WatchLine) → relabel_bits line ≡ bits_given (event_of line)
    one (Event (Emit node port)) = refl
    one (Event (Arrive number)) = refl
    one (Event (Restart node)) = refl
    one (Event (Relabel node bits)) = omega arith
    one Look = refl

-- the bits of the labels before a line and those of its label are among those of all lines
pub given_within : (lines : List WatchLine) (i : ℕ) (d : WatchLine) → i < length lines
    → bits_given (events_of (take i lines)) + relabel_bits (get_or lines i d) ≤ total_relabel_bits lines
given_within lines i d within =
    omega (
      arith,
      total_given (take i lines),
      sum_by-take-drop relabel_bits lines i,
      sum_by-drop_more relabel_bits lines i d within,
    )

module _ (rows : List NodeRow) (before : List WatchEvent) (lines : List WatchLine)
    (place number : ℕ) (d : WatchLine) (within : place < length lines) where
  -- the first line whose event does not apply is the next, or one behind it
  pub unwatched_here : line_does_not_apply rows before (get_or lines place d) ≡ true
      → first_refused_line rows before (number + place) (drop place lines) ≡ Some (number + place)
  unwatched_here bad = rw (drop-cons lines place d within, bad) refl

  pub unwatched_later : line_does_not_apply rows before (get_or lines place d) ≡ false
      → first_refused_line rows before (number + place) (drop place lines)
      ≡ first_refused_line rows (before ++ event_of (get_or lines place d)) (number + (place + 1))
      (drop (place + 1) lines)
  unwatched_later fits =
      let next : number + place + 1 ≡ number + (place + 1) = omega arith in
      rw (drop-cons lines place d within, fits, next, add-one) refl

-- behind all lines there is none
pub unwatched_none : (rows : List NodeRow) (before : List WatchEvent) (lines : List WatchLine)
    (place number : ℕ) → length lines ≤ place
    → first_refused_line rows before number (drop place lines) ≡ None
unwatched_none rows before lines place number past = rw (drop_all place lines past) refl

-- one line more asks for what it asks for behind the events before it
pub looks_more : (shown : List WatchEvent → List (ℕ × Outcome × List ℕ))
    (before : List WatchEvent) (lines : List WatchLine) (line : WatchLine)
    → looks_behind shown before (lines ++ line ∷ [])
    ≡ looks_behind shown before lines ++ looks_behind shown (before ++ events_of lines) (line ∷ [])
looks_more shown before [] line =
    ap (λ events. looks_behind shown events (line ∷ [])) (sym (append-nil before))
looks_more shown before (Event event ∷ lines) line =
    looks_more shown (before ++ event ∷ []) lines line
    ∙ ap (λ events. looks_behind shown (before ++ event ∷ []) lines
    ++ looks_behind shown events (line ∷ []))
    (append_assoc before (event ∷ []) (events_of lines))
looks_more shown before (Look ∷ lines) line =
    ap (λ rest. shown before ∷ rest) (looks_more shown before lines line)

-- what is shown hangs on the network, the labels at the start and the events
pub look_same : (judge : Seen → Verdict) (watched : Watched) (rows : List NodeRow)
    (labels : List (List Bool)) (events : List WatchEvent) → watched.network ≡ rows
    → watched.start ≡ labels → watched.events ≡ events
    → look_of judge watched ≡ look_after judge rows labels events
look_same judge watched rows labels events network start taken = λ i. look_of judge (record {
  network = network i;
  start = start i;
  most = watched.most;
  most_relabels = watched.most_relabels;
  most_bits = watched.most_bits;
  events = taken i;
})

-- so a line shows what it asks for
pub line_shows : (judge : Seen → Verdict) (watched : Watched) (rows : List NodeRow)
    (labels : List (List Bool)) (events : List WatchEvent) (line : WatchLine)
    → watched.network ≡ rows → watched.start ≡ labels → watched.events ≡ events
    → shown_at judge watched line
    ≡ looks_behind (look_after judge rows labels) events (line ∷ [])
line_shows judge watched rows labels events (Event event) network start taken = refl
line_shows judge watched rows labels events Look network start taken =
    ap (λ look. look ∷ []) (look_same judge watched rows labels events network start taken)

-- the text of one look more
pub looks_text_more : (looks : List (List (ℕ × Outcome × List ℕ)))
    (look : List (ℕ × Outcome × List ℕ)) (number : ℕ)
    → looks_text number (looks ++ look ∷ [])
    ≡ looks_text number looks ++ look_text (number + length looks) look
looks_text_more [] look number =
    let same : number ≡ number + 0 = omega arith in
    append-nil (look_text number look) ∙ ap (λ number. look_text number look) same
looks_text_more (first ∷ looks) look number =
    let next : number + 1 + length looks ≡ number + length (first ∷ looks) = omega arith in
    ap (λ rest. look_text number first ++ rest)
    (looks_text_more looks look (number + 1)
    ∙ ap (λ last. looks_text (number + 1) looks ++ look_text last look) next)
    ∙ sym (append_assoc (look_text number first) (looks_text (number + 1) looks)
    (look_text (number + length (first ∷ looks)) look))

-- one look more is shown
pub shown_more : (texts : List (List ℕ)) (was well : Bool)
    (looks : List (List (ℕ × Outcome × List ℕ))) (look : List (ℕ × Outcome × List ℕ))
    → AreShown texts was looks → well ≡ look_is_well look
    → AreShown (texts ++ look_text (length texts + 1) look ∷ []) well (looks ++ look ∷ [])
shown_more texts was well looks look are is =
    let text : List ℕ = look_text (length texts + 1) look in
    let number : length texts + 1 ≡ 1 + length looks = omega (arith, are.count) in record {
      says = flat_map-append (λ text. text) texts (text ∷ [])
          ∙ (λ i. are.says i ++ append-nil text i)
          ∙ (λ i. looks_text 1 looks ++ look_text (number i) look)
          ∙ sym (looks_text_more looks look 1);
      count = length-append texts (text ∷ []) ∙ ap (λ (n : ℕ). n + 1) are.count
          ∙ sym (length-append looks (look ∷ []));
      ends = is ∙ sym (closed_push (λ look. Unit {0}) look_is_well true looks look);
    }
