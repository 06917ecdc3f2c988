-- What stays of a look after an event.
use Rattle.std.proofs.Common.{◌≡◌, ◌∙◌, ℕ, suc, ◌+◌, ◌≤◌, ◌==◌, Bool, true, false, cond, List, [], ◌∷◌, ◌++◌, get_or, Option, Some, None, is_some, slice_get, refl, sym, ap, arith, append-nil}
use Rattle.std.specs.Option.{option_map_or}
use Rattle.std.proofs.lemmas.Bool.{eq-eqb, eqb-true, ne_eqb}
use Rattle.std.proofs.lemmas.Grind.{flat_map-append}
use Rattle.std.proofs.lemmas.List.{get_or_append_left, map-append}
use Rattle.pls_configuration.specs.declared.row.Port.{Port}
use Rattle.pls_configuration.specs.declared.row.NodeRow.{NodeRow}
use Rattle.pls_configuration.specs.declared.verdict.Verdict.{Verdict}
use Rattle.pls_labels.specs.Seen.{Seen, label_of, seen}
use Rattle.pls_sim.specs.Schedule.{has_heard, outcome_after, unheard, failing_from}
use Rattle.pls_watch_part.specs.declared.watch_event.WatchEvent.{WatchEvent}
use Rattle.pls_watch.specs.declared.turn.Turn.{Turn}
use Rattle.pls_watch.specs.Labelled.{given_to, later_labels, turn_of, turns_of}
use Rattle.pls_watch.specs.Versions.{held, is_fresh, known, newest, plain_of, relabels}
use Rattle.pls_watch.specs.Watching.{Watched, outcome_in, stale_in, version_of_label, watching}
use Rattle.pls_watch.specs.inner.Current.{KnowsSame, holds_newest, holds_previous}
use Rattle.pls_watch.proofs.Ahead.{held_few}
use Rattle.pls_watch.proofs.Given.{many_labels}
use Rattle.pls_watch.proofs.More.{heard_held, newest_more}

-- the same ports pass a test that says the same of their neighbours
same_ports : (test other : ℕ → Bool) (number : ℕ) (ports : List Port)
    → ((p : ℕ) (at : Port) → slice_get ports p ≡ Some at → test at.nbr ≡ other at.nbr)
    → failing_from test number ports ≡ failing_from other number ports
same_ports test other number [] same = refl
same_ports test other number (port ∷ ports) same =
    let first = same 0 port refl in
    let others = same_ports test other (number + 1) ports (λ p at has. same (suc p) at has) in
    λ i. cond (first i) (others i) (number ∷ others i)

module _ (watched : Watched) (event : WatchEvent) where
  abbrev rows : List NodeRow
  rows = watched.network

  abbrev turns : List Turn
  turns = turns_of watched.events

  abbrev next : Watched
  next = watching event watched

  abbrev later : List Turn
  later = turns_of next.events

  grown : later ≡ turns ++ turn_of event ∷ []
  grown = map-append turn_of watched.events (event ∷ [])

  -- a node that gets no label has the newest that it had
  newest_same : (node : ℕ) → relabels node (turn_of event) ≡ false
      → newest later node ≡ newest turns node
  newest_same node stays =
      let same : newest turns node + 0 ≡ newest turns node = omega arith in
      ap (λ (turns : List Turn). newest turns node) grown
      ∙ newest_more turns (turn_of event) node
      ∙ ap (λ (b : Bool). newest turns node + cond b 1 0) stays ∙ same

  -- and one that gets a label has one version more
  newest_next : (node : ℕ) → relabels node (turn_of event) ≡ true
      → newest later node ≡ newest turns node + 1
  newest_next node gives =
      ap (λ (turns : List Turn). newest turns node) grown
      ∙ newest_more turns (turn_of event) node
      ∙ ap (λ (b : Bool). newest turns node + cond b 1 0) gives

  -- labels that there are stay as they are
  labels_grown : (node : ℕ)
      → later_labels next.events node ≡ later_labels watched.events node ++ given_to node event
  labels_grown node =
      flat_map-append (given_to node) watched.events (event ∷ [])
      ∙ ap (λ (last : List (List Bool)). later_labels watched.events node ++ last)
      (append-nil (given_to node event))

  label_stays : (node version : ℕ) → version ≤ newest turns node
      → version_of_label next node version ≡ version_of_label watched node version
  label_stays node version few =
      let first : List Bool = label_of rows watched.start node in
      let before : List (List Bool) = later_labels watched.events node in
      ap (λ (labels : List (List Bool)). get_or (first ∷ labels) version []) (labels_grown node)
      ∙ get_or_append_left (first ∷ before) (given_to node event) [] version
      (omega (arith, few, many_labels watched.events node))

  module _ (row : NodeRow) (knows : KnowsSame watched event row.id) where
    unheard_same : unheard rows (plain_of later) row ≡ unheard rows (plain_of turns) row
    unheard_same =
        same_ports (has_heard rows (plain_of later) row.id) (has_heard rows (plain_of turns) row.id)
        0 row.ports
        (λ p at has. heard_held rows later row.id at.nbr ∙ ap is_some (knows.holds at.nbr)
        ∙ sym (heard_held rows turns row.id at.nbr))

    abbrev believed : ℕ → List Bool
    believed other = version_of_label watched other (known rows turns row.id other)

    abbrev believed_next : ℕ → List Bool
    believed_next other = version_of_label next other (known rows later row.id other)

    -- what is held stands for the same label, and so does the own newest
    held_same : (other : ℕ)
        → version_of_label next other
        (option_map_or (λ version. version) (held rows later row.id other) 0)
        ≡ version_of_label watched other
        (option_map_or (λ version. version) (held rows turns row.id other) 0)
    held_same other =
        ap (λ (o : Option ℕ). version_of_label next other (option_map_or (λ version. version) o 0))
        (knows.holds other)
        ∙ by (held rows turns row.id other) refl
      where
        by : (o : Option ℕ) → held rows turns row.id other ≡ o
            → version_of_label next other (option_map_or (λ version. version) o 0)
            ≡ version_of_label watched other (option_map_or (λ version. version) o 0)
        by None is = refl
        by (Some version) is =
            label_stays other version (held_few rows turns row.id other version is)

    own_same : version_of_label next row.id (newest later row.id)
        ≡ version_of_label watched row.id (newest turns row.id)
    own_same =
        ap (version_of_label next row.id) (newest_same row.id knows.stays)
        ∙ label_stays row.id (newest turns row.id) (omega arith)

    believed_same : (other : ℕ) → believed_next other ≡ believed other
    believed_same other = by (other == row.id) refl
      where
        by : (b : Bool) → (other == row.id) ≡ b
            → version_of_label next other (cond b (newest later row.id)
            (option_map_or (λ version. version) (held rows later row.id other) 0))
            ≡ version_of_label watched other (cond b (newest turns row.id)
            (option_map_or (λ version. version) (held rows turns row.id other) 0))
        by false is = held_same other
        by true is = rw (eqb-true other row.id is) own_same

    pub outcome_stays : (judge : Seen → Verdict)
        → outcome_in judge next row ≡ outcome_in judge watched row
    outcome_stays judge = λ i. outcome_after (unheard_same i)
        (judge (seen (λ other. believed_same other i) row))

    -- what is held is not the newest once there is another
    not_newest : (nbr version : ℕ) → held rows turns row.id nbr ≡ Some version
        → relabels nbr (turn_of event) ≡ true → (version == newest later nbr) ≡ false
    not_newest nbr version is gives =
        ne_eqb version (newest later nbr) (λ same. omega (
          arith,
          same,
          held_few rows turns row.id nbr version is,
          newest_next nbr gives,
        ))

    -- a port stays as stale as it is where the neighbour gets no label, or none before was its
    -- newest
    fresh_same : (nbr : ℕ) → (relabels nbr (turn_of event) ≡ true
        → holds_newest rows turns row.id nbr ≡ false)
        → is_fresh rows later row.id nbr ≡ is_fresh rows turns row.id nbr
    fresh_same nbr behind = by (relabels nbr (turn_of event)) refl
      where
        of : (o : Option ℕ) → held rows turns row.id nbr ≡ o
            → relabels nbr (turn_of event) ≡ true
            → option_map_or (λ version. version == newest later nbr) o true
            ≡ option_map_or (λ version. version == newest turns nbr) o true
        of None is gives = refl
        of (Some version) is gives =
            not_newest nbr version is gives
            ∙ sym (sym (ap (λ (o : Option ℕ). option_map_or
            (λ version. version == newest turns nbr) o false) is) ∙ behind gives)

        by : (b : Bool) → relabels nbr (turn_of event) ≡ b
            → is_fresh rows later row.id nbr ≡ is_fresh rows turns row.id nbr
        by false quiet = λ i. option_map_or (λ version. version == newest_same nbr quiet i)
            (knows.holds nbr i) true
        by true gives =
            ap (λ (o : Option ℕ). option_map_or (λ version. version == newest later nbr) o true)
            (knows.holds nbr)
            ∙ of (held rows turns row.id nbr) refl gives

    pub stale_stays : ((p : ℕ) (at : Port) → slice_get row.ports p ≡ Some at
        → relabels at.nbr (turn_of event) ≡ true
        → holds_newest rows turns row.id at.nbr ≡ false)
        → stale_in next row ≡ stale_in watched row
    stale_stays behind =
        same_ports (is_fresh rows later row.id) (is_fresh rows turns row.id) 0 row.ports
        (λ p at has. fresh_same at.nbr (behind p at has))

    -- the newest that is held is the one before it once there is another
    pub previous_held : (nbr : ℕ) → relabels nbr (turn_of event) ≡ true
        → holds_newest rows turns row.id nbr ≡ true → holds_previous rows later row.id nbr ≡ true
    previous_held nbr gives is_newest =
        ap (λ (o : Option ℕ). option_map_or (λ version. version + 1 == newest later nbr) o false)
        (knows.holds nbr)
        ∙ of (held rows turns row.id nbr) is_newest
      where
        of : (o : Option ℕ) → option_map_or (λ version. version == newest turns nbr) o false ≡ true
            → option_map_or (λ version. version + 1 == newest later nbr) o false ≡ true
        of None is = absurd (cc)
        of (Some version) is =
            eq-eqb (version + 1) (newest later nbr)
            (omega (arith, eqb-true version (newest turns nbr) is, newest_next nbr gives))

    -- what is not the newest does not come to be it by an event
    pub newest_behind : (nbr : ℕ) → (relabels nbr (turn_of event) ≡ false
        → holds_newest rows turns row.id nbr ≡ false)
        → holds_newest rows later row.id nbr ≡ false
    newest_behind nbr behind = by (relabels nbr (turn_of event)) refl
      where
        of : (o : Option ℕ) → held rows turns row.id nbr ≡ o
            → relabels nbr (turn_of event) ≡ true
            → option_map_or (λ version. version == newest later nbr) o false ≡ false
        of None is gives = refl
        of (Some version) is gives = not_newest nbr version is gives

        by : (b : Bool) → relabels nbr (turn_of event) ≡ b
            → holds_newest rows later row.id nbr ≡ false
        by false quiet = (λ i. option_map_or (λ version. version == newest_same nbr quiet i)
            (knows.holds nbr i) false) ∙ behind quiet
        by true gives =
            ap (λ (o : Option ℕ). option_map_or (λ version. version == newest later nbr) o false)
            (knows.holds nbr)
            ∙ of (held rows turns row.id nbr) refl gives
