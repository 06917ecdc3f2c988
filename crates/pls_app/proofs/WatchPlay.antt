-- A watch as it is played, with one line more.
use Rattle.std.proofs.Common.{◌≡◌, ◌∙◌, ℕ, ◌+◌, ◌<◌, ◌≤◌, Bool, true, false, not, List, [], ◌∷◌, ◌++◌, length, take, drop, get_or, refl, sym, ap, subst, arith, add-one, append-nil}
use Rattle.std.proofs.lemmas.List.{drop_more, length-drop, take_more}
use Rattle.std.proofs.Math.Seq.{drop-cons}
use Rattle.pls_configuration.specs.declared.row.NodeRow.{NodeRow}
use Rattle.pls_configuration.specs.declared.verdict.Verdict.{Verdict}
use Rattle.pls_labels.specs.Seen.{Seen}
use Rattle.pls_sim.specs.declared.outcome.Outcome.{Outcome}
use Rattle.pls_watch_part.specs.declared.watch_event.WatchEvent.{WatchEvent}
use Rattle.pls_watch_part.specs.declared.watch_event.WatchLine.{WatchLine}
use Rattle.pls_watch_part.specs.declared.watch_event.WatchLine.TheVariants.{Event, Look}
use Rattle.pls_watch.specs.Watching.{Watched}
use Rattle.pls_app.specs.Looks.{look_after, looks_behind}
use Rattle.pls_app.specs.WatchRefusal.{event_of, events_of, first_refused_line, line_does_not_apply}
use Rattle.pls_app.specs.inner.Watching.{AreShown, HasRoomForEvents, shown_at, watched_behind}
use Rattle.pls_app.proofs.WatchLines.{events_more, line_shows, looks_more, unwatched_later}
use Rattle.pls_app.proofs.WatchRoom.{room_behind, room_first}

-- behind a line the network and the labels at the start are as before, and its event was taken
behind_network : (line : WatchLine) (watched : Watched)
    → (watched_behind line watched).network ≡ watched.network
behind_network (Event event) watched = refl
behind_network Look watched = refl

behind_start : (line : WatchLine) (watched : Watched)
    → (watched_behind line watched).start ≡ watched.start
behind_start (Event event) watched = refl
behind_start Look watched = refl

behind_events : (line : WatchLine) (watched : Watched)
    → (watched_behind line watched).events ≡ watched.events ++ event_of line
behind_events (Event event) watched = refl
behind_events Look watched = sym (append-nil watched.events)

module _ (lines : List WatchLine) (place : ℕ) (d : WatchLine) (within : place < length lines) where
  abbrev line : WatchLine
  line = get_or lines place d

  -- the events of the lines up to the next
  events_here : events_of (take place lines) ++ event_of line ≡ events_of (take (place + 1) lines)
  events_here =
      ap (λ events. events_of (take place lines) ++ events) (sym (append-nil (event_of line)))
      ∙ sym (events_more (take place lines) (line ∷ []))
      ∙ ap events_of (sym (take_more lines place d within))

  module _ (watched : Watched) (room : HasRoomForEvents watched (events_of (drop place lines))) where
    -- there is room for the next line and for the others
    room_for : HasRoomForEvents watched (event_of line ++ events_of (drop (place + 1) lines))
    room_for =
        subst (λ (lines : List WatchLine). HasRoomForEvents watched (events_of lines))
        (drop-cons lines place d within ∙ ap (λ n. line ∷ drop n lines) (sym (add-one place))) room

    pub room_here : HasRoomForEvents watched (event_of line)
    room_here = room_first watched (event_of line) (events_of (drop (place + 1) lines)) room_for

    pub room_on : (new : Watched) → new ≡ watched_behind line watched
        → HasRoomForEvents new (events_of (drop (place + 1) lines))
    room_on new is =
        subst (λ (watched : Watched). HasRoomForEvents watched (events_of (drop (place + 1) lines)))
        (sym is) (room_behind watched line (events_of (drop (place + 1) lines)) room_for)

  module _ (rows : List NodeRow) (labels : List (List Bool)) (old new : Watched)
      (network : old.network ≡ rows) (start : old.start ≡ labels)
      (taken : old.events ≡ events_of (take place lines)) where
    pub network_on : new ≡ watched_behind line old → new.network ≡ rows
    network_on is =
        ap (λ (watched : Watched). watched.network) is ∙ behind_network line old ∙ network

    pub start_on : new ≡ watched_behind line old → new.start ≡ labels
    start_on is = ap (λ (watched : Watched). watched.start) is ∙ behind_start line old ∙ start

    pub taken_on : new ≡ watched_behind line old → new.events ≡ events_of (take (place + 1) lines)
    taken_on is =
        ap (λ (watched : Watched). watched.events) is ∙ behind_events line old
        ∙ ap (λ events. events ++ event_of line) taken ∙ events_here

    -- the looks so far, with what the line shows
    pub shown_on : (judge : Seen → Verdict) (texts : List (List ℕ)) (well : Bool)
        → AreShown texts well (looks_behind (look_after judge rows labels) [] (take place lines)
        ++ shown_at judge old line)
        → AreShown texts well (looks_behind (look_after judge rows labels) [] (take (place + 1) lines))
    shown_on judge texts well are =
        let look : List WatchEvent → List (ℕ × Outcome × List ℕ) = look_after judge rows labels in
        subst (AreShown texts well)
        (ap (λ more. looks_behind look [] (take place lines) ++ more)
        (line_shows judge old rows labels (events_of (take place lines)) line network start taken)
        ∙ sym (looks_more look [] (take place lines) line)
        ∙ ap (looks_behind look []) (sym (take_more lines place d within))) are

    -- a line that applies hands on to those behind it
    pub first_on : (number : ℕ) → line_does_not_apply old.network old.events line ≡ false
        → first_refused_line rows [] number lines
        ≡ first_refused_line rows (events_of (take place lines)) (number + place) (drop place lines)
        → first_refused_line rows [] number lines
        ≡ first_refused_line rows (events_of (take (place + 1) lines)) (number + (place + 1))
        (drop (place + 1) lines)
    first_on number fits so_far =
        let fits_there : line_does_not_apply rows (events_of (take place lines)) line ≡ false =
        (λ i. line_does_not_apply (sym network i) (sym taken i) line) ∙ fits in
        so_far ∙ unwatched_later rows (events_of (take place lines)) lines place number d within
        fits_there
        ∙ ap (λ (before : List WatchEvent). first_refused_line rows before (number + (place + 1))
        (drop (place + 1) lines)) events_here

-- where a line comes first of those that are left, it is the next
pub next_left : (lines : List WatchLine) (place : ℕ) (line : WatchLine) (rest : List WatchLine)
    → drop place lines ≡ line ∷ rest
    → (place < length lines) × (line ≡ get_or lines place line) × (rest ≡ drop (place + 1) lines)
next_left lines place line rest left =
    let within : place < length lines =
    omega (arith, length-drop place lines, ap (length {A = WatchLine}) left) in
    let both : get_or lines place line ∷ drop (place + 1) lines ≡ line ∷ rest =
    sym (drop_more lines place line within) ∙ left in (
      within,
      sym (ap (λ (list : List WatchLine). get_or list 0 line) both),
      sym (ap (drop 1) both),
    )

-- so many of these lines were played and the others are left, of a watch over these rows with these
-- labels at the start; this is what is watched now, and what was shown
pub record IsPlayed (judge : Seen → Verdict) (rows : List NodeRow) (labels : List (List Bool))
    (lines : List WatchLine) (place : ℕ) (left : List WatchLine) (watched : Watched)
    (texts : List (List ℕ)) (well : Bool) : Type 0 where
  pub network : watched.network ≡ rows
  pub start : watched.start ≡ labels
  pub behind : left ≡ drop place lines
  pub within : place ≤ length lines
  pub taken : watched.events ≡ events_of (take place lines)
  pub room : HasRoomForEvents watched (events_of (drop place lines))
  pub shown : AreShown texts well
      (looks_behind (look_after judge rows labels) [] (take place lines))
  pub so_far : (number : ℕ) → first_refused_line rows [] number lines
      ≡ first_refused_line rows (events_of (take place lines)) (number + place) (drop place lines)

-- so one more is played, where it applies
pub played_on : (judge : Seen → Verdict) (rows : List NodeRow) (labels : List (List Bool))
    (lines : List WatchLine) (place : ℕ) (line : WatchLine) (left later : List WatchLine)
    (old new : Watched) (texts new_texts : List (List ℕ)) (well new_well : Bool)
    → IsPlayed judge rows labels lines place left old texts well → left ≡ line ∷ later
    → new ≡ watched_behind line old → line_does_not_apply old.network old.events line ≡ false
    → ((looks : List (List (ℕ × Outcome × List ℕ))) → AreShown texts well looks
    → AreShown new_texts new_well (looks ++ shown_at judge old line))
    → IsPlayed judge rows labels lines (place + 1) later new new_texts new_well
played_on judge rows labels lines place line left later old new texts new_texts well new_well was
    next is fits shows =
    let (within, at, behind) = next_left lines place line later (sym was.behind ∙ next) in
    let is_there : new ≡ watched_behind (get_or lines place line) old =
    is ∙ ap (λ (line : WatchLine). watched_behind line old) at in
    record {
      network = network_on lines place line within rows labels old new was.network was.start
          was.taken is_there;
      start = start_on lines place line within rows labels old new was.network was.start was.taken
          is_there;
      behind = behind;
      within = omega (arith, within);
      taken = taken_on lines place line within rows labels old new was.network was.start was.taken
          is_there;
      room = room_on lines place line within old was.room new is_there;
      shown = shown_on lines place line within rows labels old new was.network was.start was.taken
          judge new_texts new_well
          (subst (λ (line : WatchLine). AreShown new_texts new_well
          (looks_behind (look_after judge rows labels) [] (take place lines)
          ++ shown_at judge old line)) at (shows _ was.shown));
      so_far = λ number. first_on lines place line within rows labels old new was.network was.start
          was.taken number (ap (line_does_not_apply old.network old.events) (sym at) ∙ fits)
          (was.so_far number);
    }

-- what is not refused applies
pub applies_so : (refused : Bool) → not refused ≡ true → refused ≡ false
applies_so true is = absurd (cc)
applies_so false is = refl

pub refused_so : (refused : Bool) → not refused ≡ false → refused ≡ true
refused_so true is = refl
refused_so false is = absurd (cc)
