-- Whether an event of a watch applies, where there is room for it.
use Rattle.std.proofs.Common.{◌≡◌, ◌∙◌, ℕ, ◌+◌, ◌<◌, nat_le, nat_lt, Bool, true, false, not, List, [], ◌∷◌, ◌++◌, length, Option, Some, None, Result, Ok, Err, OnOk, IfErr, is_ok, is_some, is_none, refl, sym, ap, subst, arith, length-append}
use Rattle.std.proofs.lemmas.Bool.{lt-leb, le-ltb}
use Rattle.std.proofs.lemmas.List.{length-map}
use Rattle.pls_configuration.specs.Configuration.{first_of, row_of, refused_if}
use Rattle.pls_schedule.specs.declared.event.Event.{Event as RoundEvent}
use Rattle.pls_schedule.specs.declared.event.Event.TheVariants as Plays
use Rattle.pls_sim.specs.declared.event_error.EventError.{EventError}
use Rattle.pls_sim.specs.declared.event_error.EventError.TheVariants.{Full, NoNode}
use Rattle.pls_sim.specs.Applying.{Played, event_refusal}
use Rattle.pls_watch_part.specs.declared.watch_event.WatchEvent.{WatchEvent}
use Rattle.pls_watch_part.specs.declared.watch_event.WatchEvent.TheVariants.{Arrive, Emit, Relabel, Restart}
use Rattle.pls_watch_part.specs.declared.watch_event.WatchLine.{WatchLine}
use Rattle.pls_watch_part.specs.declared.watch_event.WatchLine.TheVariants.{Event, Look}
use Rattle.pls_watch.specs.declared.turn.Turn.{Turn}
use Rattle.pls_watch.specs.declared.turn.Turn.TheVariants as Turns
use Rattle.pls_watch.specs.Labelled.{bits_given, labels_given, turn_of, turns_of}
use Rattle.pls_watch.specs.Turning.{refused_in, round_of, turn_refusal}
use Rattle.pls_watch.specs.Versions.{plain_of}
use Rattle.pls_watch.specs.Watching.{Watched, lacks_room, turned_of, watch_refusal}
use Rattle.pls_watch.proofs.Arrived.{plain_few}
use Rattle.pls_watch.proofs.Room.{play_refusal, relabel_refusal}
use Rattle.pls_app.specs.ScheduleRefusal.{does_not_apply}
use Rattle.pls_app.specs.WatchRefusal.{event_of, watch_event_does_not_apply, turn_does_not_apply}
use Rattle.pls_app.specs.inner.Watching.{HasRoomForEvents, watched_behind}
use Rattle.pls_app.proofs.Schedules.{applies, fails}
use Rattle.pls_app.proofs.WatchLines.{bits_more, labels_more}

-- room for some events is room for the first of them
pub room_first : (watched : Watched) (events later : List WatchEvent)
    → HasRoomForEvents watched (events ++ later) → HasRoomForEvents watched events
room_first watched events later room = record {
  few_events = omega (arith, room.few_events, length-append events later);
  few_relabels = omega (
    arith,
    room.few_relabels,
    ap (length {A = List Bool}) (labels_more events later),
    length-append (labels_given events) (labels_given later),
  );
  few_bits = omega (arith, room.few_bits, bits_more events later);
}

-- and behind its line for the others
pub room_behind : (watched : Watched) (line : WatchLine) (later : List WatchEvent)
    → HasRoomForEvents watched (event_of line ++ later)
    → HasRoomForEvents (watched_behind line watched) later
room_behind watched Look later room = room
room_behind watched (Event event) later room =
    let one : List WatchEvent = event ∷ [] in record {
      few_events = omega (
        arith,
        room.few_events,
        length-append watched.events one,
        length-append one later,
      );
      few_relabels = omega (
        arith,
        room.few_relabels,
        ap (length {A = List Bool}) (labels_more watched.events one),
        length-append (labels_given watched.events) (labels_given one),
        ap (length {A = List Bool}) (labels_more one later),
        length-append (labels_given one) (labels_given later),
      );
      few_bits = omega (arith, room.few_bits, bits_more watched.events one, bits_more one later);
    }

module _ (watched : Watched) (event : WatchEvent)
    (room : HasRoomForEvents watched (event ∷ [])) where
  abbrev turns : List Turn
  turns = turns_of watched.events

  many : length turns ≡ length watched.events
  many = length-map watched.events turn_of

  not_full : nat_le watched.most (length turns) ≡ false
  not_full = lt-leb watched.most (length turns) (omega (arith, room.few_events, many))

  -- a turn is refused as the round refuses it
  by_round : (turn : Turn)
      → turn_refusal (turned_of watched) turn ≡ refused_in (round_of (turned_of watched)) turn
  by_round turn =
      ap (λ (full : Bool). first_of (refused_if full Full
      ∷ refused_in (round_of (turned_of watched)) turn ∷ [])) not_full
      ∙ alone (refused_in (round_of (turned_of watched)) turn)
    where
      alone : (refusal : Option EventError)
          → first_of (refused_if false Full ∷ refusal ∷ []) ≡ refusal
      alone None = refl
      alone (Some error) = refl

  -- a relabel finds its room
  enough : (node : ℕ) (label : List Bool) → event ≡ Relabel node label
      → lacks_room watched (Relabel node label) ≡ false
  enough node label is =
      let there : HasRoomForEvents watched (Relabel node label ∷ []) =
      subst (λ (event : WatchEvent). HasRoomForEvents watched (event ∷ [])) is room in
      let more : nat_le watched.most_relabels (length (labels_given watched.events)) ≡ false =
      lt-leb watched.most_relabels (length (labels_given watched.events)) (omega (arith, there.few_relabels)) in
      let bits : nat_lt watched.most_bits (bits_given watched.events + length label) ≡ false =
      le-ltb watched.most_bits (bits_given watched.events + length label) (omega (arith, there.few_bits)) in
      rw (more, bits) refl

  -- so an event is refused as its turn is by the round
  refusal_is : watch_refusal watched event
      ≡ refused_in (round_of (turned_of watched)) (turn_of event)
  refusal_is = by event refl
    where
      by : (other : WatchEvent) → event ≡ other → watch_refusal watched other
          ≡ refused_in (round_of (turned_of watched)) (turn_of other)
      by (Emit node port) is =
          play_refusal watched (Plays.Emit node port)
          ∙ by_round (Turns.Plain (Plays.Emit node port))
      by (Arrive number) is =
          play_refusal watched (Plays.Arrive number) ∙ by_round (Turns.Plain (Plays.Arrive number))
      by (Restart node) is =
          play_refusal watched (Plays.Restart node) ∙ by_round (Turns.Plain (Plays.Restart node))
      by (Relabel node label) is =
          relabel_refusal watched node label (enough node label is)
          ∙ by_round (Turns.Relabel node)

  -- it is refused exactly where it names nothing
  pub refused_exactly : watch_event_does_not_apply watched.network watched.events event
      ≡ is_some (watch_refusal watched event)
  refused_exactly = of_turn (turn_of event) ∙ ap is_some (sym refusal_is)
    where
      played : Played
      played = round_of (turned_of watched)

      few : length (plain_of turns) < watched.most
      few = omega (arith, room.few_events, many, plain_few turns)

      of_event : (event : RoundEvent) (refusal : Option EventError)
          → event_refusal played event ≡ refusal
          → does_not_apply watched.network (plain_of turns) event ≡ is_some refusal
      of_event event None is = applies played event few is
      of_event event (Some error) is = fails played event few error is

      of_test : (none : Bool) → none ≡ is_some (refused_if none NoNode)
      of_test true = refl
      of_test false = refl

      of_turn : (turn : Turn)
          → turn_does_not_apply watched.network (plain_of turns) turn
          ≡ is_some (refused_in played turn)
      of_turn (Turns.Plain event) = of_event event (event_refusal played event) refl
      of_turn (Turns.Relabel node) = of_test (is_none (row_of watched.network node))

-- whether it was taken, where it is refused so
pub taken_exactly : {T : Type 0} (result : Result T EventError) (refusal : Option EventError)
    (refused : Bool) → OnOk result (refusal ≡ None)
    → IfErr result (λ error. refusal ≡ Some error) → refused ≡ is_some refusal
    → is_ok result ≡ not refused
taken_exactly (Ok value) refusal refused applies fails is =
    ap not (sym (is ∙ ap is_some applies))
taken_exactly (Err error) refusal refused applies fails is = ap not (sym (is ∙ ap is_some fails))
