-- The definitions at worked examples.
use Rattle.std.proofs.Common.{◌≡◌, ℕ, Bool, true, false, if◌then◌else◌, List, [], ◌∷◌, Some, None, refl}
use Rattle.std.specs.List.{list_any}
use Rattle.pls_configuration.specs.declared.row.NodeRow.{NodeRow}
use Rattle.pls_configuration.specs.declared.verdict.Verdict.{Verdict}
use Rattle.pls_configuration.specs.declared.verdict.Verdict.TheVariants.{Accept, Reject}
use Rattle.pls_labels.specs.Seen.{Seen}
use Rattle.pls_sim.specs.declared.event_error.EventError.TheVariants.{Full, NoEmit}
use Rattle.pls_sim.specs.declared.outcome.Outcome.TheVariants.{Decided, Waiting}
use Rattle.pls_watch_part.specs.declared.watch_event.WatchEvent.{WatchEvent}
use Rattle.pls_watch_part.specs.declared.watch_event.WatchEvent.TheVariants.{Emit, Arrive, Restart, Relabel}
use Rattle.pls_watch.specs.Labelled.{turns_of}
use Rattle.pls_watch.specs.Versions.{carried, held}
use Rattle.pls_watch.specs.Watching.{Watched, look_of, version_of_label, watch_refusal}

abbrev node : ℕ → ℕ → NodeRow
node id nbr = record {
  id = id;
  state = record { up = None; mark = 0; num = 0 };
  ports = record { nbr = nbr; weight = 1 } ∷ [];
}

-- two nodes, 1 and 2, whose labels are a colour each, and what they take
abbrev after : List WatchEvent → Watched
after events = record {
  network = node 1 2 ∷ node 2 1 ∷ [];
  start = (false ∷ []) ∷ (true ∷ []) ∷ [];
  most = 8;
  most_relabels = 2;
  most_bits = 2;
  events = events;
}

-- two labels are one colour
abbrev one_colour : List Bool → List Bool → Bool
one_colour (true ∷ rest) (true ∷ other) = true
one_colour (false ∷ rest) (false ∷ other) = true
one_colour rest other = false

-- a node and its neighbours have two colours
abbrev two_colours : Seen → Verdict
two_colours view = if list_any (λ port. one_colour view.own port.label) view.ports
    then Reject 1 3 else Accept

-- a label that changes after its first version has arrived
abbrev late : Watched
late = after (Emit 1 0 ∷ Emit 2 0 ∷ Arrive 1 ∷ Arrive 2 ∷ Relabel 1 (true ∷ []) ∷ [])

late_held : held late.network (turns_of late.events) 2 1 ≡ Some 0
late_held = refl

late_label : version_of_label late 1 1 ≡ true ∷ []
late_label = refl

late_look : look_of two_colours late
    ≡ (1, Decided (Reject 1 3), []) ∷ (2, Decided Accept, 0 ∷ []) ∷ []
late_look = refl

-- the newer version arrives before the older one, and stays held
abbrev crossed : Watched
crossed = after (Emit 1 0 ∷ Relabel 1 (true ∷ []) ∷ Relabel 2 (false ∷ []) ∷ Emit 1 0 ∷ Emit 2 0
    ∷ Arrive 3 ∷ Arrive 2 ∷ Arrive 1 ∷ [])

crossed_carried : carried (turns_of crossed.events) ≡ 0 ∷ 1 ∷ 1 ∷ []
crossed_carried = refl

crossed_held : held crossed.network (turns_of crossed.events) 2 1 ≡ Some 1
crossed_held = refl

crossed_look : look_of two_colours crossed
    ≡ (1, Decided Accept, []) ∷ (2, Decided Accept, []) ∷ []
crossed_look = refl

-- a restart forgets what was heard, and keeps the own label
abbrev again : Watched
again = after (Relabel 2 (false ∷ []) ∷ Emit 1 0 ∷ Arrive 1 ∷ Restart 2 ∷ [])

again_held : held again.network (turns_of again.events) 2 1 ≡ None
again_held = refl

again_label : version_of_label again 2 1 ≡ false ∷ []
again_label = refl

again_look : look_of two_colours again ≡ (1, Waiting (0 ∷ []), []) ∷ (2, Waiting (0 ∷ []), []) ∷ []
again_look = refl

-- what is refused: an arrival of no emit, more labels than are taken, more bits, and more events
none_emitted : watch_refusal (after []) (Arrive 1) ≡ Some NoEmit
none_emitted = refl

no_more_labels : watch_refusal (after (Relabel 1 [] ∷ Relabel 1 [] ∷ [])) (Relabel 2 []) ≡ Some Full
no_more_labels = refl

no_more_bits : watch_refusal (after (Relabel 1 (true ∷ []) ∷ [])) (Relabel 9 (true ∷ true ∷ []))
    ≡ Some Full
no_more_bits = refl

no_more_events : watch_refusal crossed (Restart 1) ≡ Some Full
no_more_events = refl
