-- The numbers that are kept of labels, after one more turn.
use Rattle.std.proofs.Common.{◌≡◌, ◌≢◌, ◌∙◌, ℕ, suc, ◌+◌, ◌<◌, ◌==◌, Bool, true, false, cond, List, [], ◌∷◌, ◌++◌, length, get_or, set, Some, slice_get, refl, sym, ap, subst, arith, append-nil, length-append, inl, inr}
use Rattle.std.proofs.lemmas.Bool.{cases_lt, eqb-true, eqb-false}
use Rattle.std.proofs.lemmas.List.{get_or-set_same, get_or-set_other, get_or_append_left, length-set}
use Rattle.std.proofs.lemmas.Option.{same_Some, slice_get_within, get_or_from_slice_get}
use Rattle.std.proofs.Math.Seq.{get_or-append_seam}
use Rattle.pls_configuration.specs.declared.row.NodeRow.{NodeRow}
use Rattle.pls_configuration.specs.Configuration.{ports_in}
use Rattle.pls_graph.proofs.Beside.{one_place}
use Rattle.pls_schedule.specs.declared.event.Event.{Event}
use Rattle.pls_schedule.specs.declared.event.Event.TheVariants.{Emit, Restart}
use Rattle.pls_sim.specs.Schedule.{Sent, emits_of, sent_by}
use Rattle.pls_sim.specs.Ways.{IsPlaceOf, IsSlot}
use Rattle.pls_sim.proofs.Behind.{get_kept}
use Rattle.pls_watch.specs.declared.turn.Turn.{Turn}
use Rattle.pls_watch.specs.declared.turn.Turn.TheVariants.{Plain, Relabel}
use Rattle.pls_watch.specs.Versions.{carried, held, newest, plain_of}
use Rattle.pls_watch.specs.inner.Held.{AreKept}
use Rattle.pls_watch.specs.inner.Numbers.{AreNumbered, IsGiven, IsLabel, relabelled}
use Rattle.pls_watch.proofs.More.{before_emit, before_restart, carried_more, carried_quiet, emits_plain, held_relabel, many_carried, newest_more, plain_more}
use Rattle.pls_watch.proofs.Numbers.{given_last, given_less, label_more, last_is, relabelled_more}

module _ (rows : List NodeRow) (turns : List Turn) (newest_labels carried_labels held_labels
    earlier : List ℕ)
    (are : AreNumbered rows turns newest_labels carried_labels held_labels earlier) where
  -- after an event
  module _ (event : Event) where
    abbrev later : List Turn
    later = turns ++ Plain event ∷ []

    newest_now : (place : ℕ) (row : NodeRow) → slice_get rows place ≡ Some row
        → IsLabel rows later row.id (newest later row.id) (get_or newest_labels place 0)
    newest_now place row at =
        let same : newest turns row.id ≡ newest later row.id =
        omega (arith, newest_more turns (Plain event) row.id) in
        subst (λ (version : ℕ). IsLabel rows later row.id version (get_or newest_labels place 0))
        same
        (label_more rows turns (Plain event) row.id (newest turns row.id) (get_or newest_labels
        place 0)
        (are.are_newest place row at))

    given_same : relabelled later ≡ relabelled turns
    given_same = relabelled_more turns (Plain event) ∙ append-nil (relabelled turns)

    earlier_now : (place node before : ℕ) → IsGiven later node before place
        → IsLabel rows later node before (get_or earlier place 0)
    earlier_now place node before given =
        let within : place < length (relabelled turns) =
        omega (
          arith,
          slice_get_within (relabelled later) place node given.at,
          ap length
              given_same,
        ) in
        label_more rows turns (Plain event) node before (get_or earlier place 0)
        (are.are_earlier place node before (given_less turns (Plain event) node before place within
        given))

  -- after an event that emits nothing
  module _ (event : Event) (none : sent_by event ≡ []) (now : List ℕ) (long : length now ≡ ports_in
      rows)
      (are_now : (number node neighbour version : ℕ) → IsSlot rows number node neighbour
      → held rows (turns ++ Plain event ∷ []) node neighbour ≡ Some version
      → IsLabel rows (turns ++ Plain event ∷ []) neighbour version (get_or now number 0)) where
    emits_same : emits_of (plain_of (turns ++ Plain event ∷ [])) ≡ emits_of (plain_of turns)
    emits_same =
        emits_plain turns event
        ∙ ap (λ (last : List Sent). emits_of (plain_of turns) ++ last) none
        ∙ append-nil (emits_of (plain_of turns))

    pub numbered_quiet : AreNumbered rows (turns ++ Plain event ∷ []) newest_labels carried_labels
        now
        earlier
    numbered_quiet = record {
      each_node = are.each_node;
      are_newest = newest_now event;
      each_emit = are.each_emit ∙ sym (ap length (carried_quiet turns event none));
      are_carried = λ place emit at.
          subst (λ (versions : List ℕ). IsLabel rows (turns ++ Plain event ∷ []) emit.node
          (get_or versions place 0) (get_or carried_labels place 0)) (sym (carried_quiet turns
          event none))
          (label_more rows turns (Plain event) emit.node (get_or (carried turns) place 0)
          (get_or carried_labels place 0) (are.are_carried place emit
          (ap (λ (emits : List Sent). slice_get emits place) (sym emits_same) ∙ at)));
      each_port = long;
      are_held = are_now;
      each_given = are.each_given ∙ sym (ap length (given_same event));
      are_earlier = earlier_now event;
    }

  module _ (versions sent holds : List ℕ) (kept : AreKept rows turns versions sent holds)
    where
      -- after a restart
      pub numbered_restart : (node : ℕ) → AreNumbered rows (turns ++ Plain (Restart node) ∷ [])
          newest_labels carried_labels held_labels earlier
      numbered_restart node =
          numbered_quiet (Restart node) refl held_labels are.each_port
          (λ number other neighbour version slot is.
          label_more rows turns (Plain (Restart node)) neighbour version (get_or held_labels number 0)
          (are.are_held number other neighbour version slot
          (before_restart rows turns node other neighbour version kept.numbered is)))

      -- after an emit
      module _ (node port from : ℕ) (place_of : IsPlaceOf rows node from) where
        abbrev emit : Sent
        emit = record { node = node; port = port }

        abbrev emits : List Sent
        emits = emits_of (plain_of turns)

        abbrev label : ℕ
        label = get_or newest_labels from 0

        abbrev emitted : List Turn
        emitted = turns ++ Plain (Emit node port) ∷ []

        carried_now : carried emitted ≡ carried turns ++ newest turns node ∷ []
        carried_now = carried_more turns (Plain (Emit node port))

        label_is : IsLabel rows turns node (newest turns node) label
        label_is =
            subst (λ (id : ℕ). IsLabel rows turns id (newest turns id) label) place_of.is
            (are.are_newest from place_of.row place_of.stands)

        carries : (place : ℕ) (one : Sent) → slice_get (emits ++ emit ∷ []) place ≡ Some one
            → IsLabel rows turns one.node (get_or (carried turns ++ newest turns node ∷ []) place 0)
            (get_or (carried_labels ++ label ∷ []) place 0)
        carries place one at = elim (cases_lt place (length emits)) [
          | inl before ↦
              let old = are.are_carried place one (sym (get_kept emits (emit ∷ []) place before) ∙
              at) in
              rw (
                get_or_append_left (carried turns) (newest turns node ∷ []) 0 place
                    (omega (arith, before, many_carried turns)),
                get_or_append_left carried_labels (label ∷ []) 0 place
                    (omega (arith, before, many_carried turns, are.each_emit)),
              ) old
          | inr last ↦
              let within = slice_get_within (emits ++ emit ∷ []) place one at in
              let here : place ≡ length emits =
              omega (arith, last, within, length-append emits (emit ∷ [])) in
              let is : emit ≡ one =
              sym (get_or-append_seam emits emit [] emit)
              ∙ ap (λ (i : ℕ). get_or (emits ++ emit ∷ []) i emit) (sym here)
              ∙ get_or_from_slice_get (emits ++ emit ∷ []) place one emit at in
              let version : newest turns node ≡ get_or (carried turns ++ newest turns node ∷ [])
              place 0 =
              sym (get_or-append_seam (carried turns) (newest turns node) [] 0)
              ∙ ap (λ (i : ℕ). get_or (carried turns ++ newest turns node ∷ []) i 0)
              (many_carried turns ∙ sym here) in
              let number : label ≡ get_or (carried_labels ++ label ∷ []) place 0 =
              sym (get_or-append_seam carried_labels label [] 0)
              ∙ ap (λ (i : ℕ). get_or (carried_labels ++ label ∷ []) i 0)
              (are.each_emit ∙ many_carried turns ∙ sym here) in
              subst (λ (one : Sent). IsLabel rows turns one.node
              (get_or (carried turns ++ newest turns node ∷ []) place 0)
              (get_or (carried_labels ++ label ∷ []) place 0)) is
              (subst (λ (v : ℕ). IsLabel rows turns node v (get_or (carried_labels ++ label ∷ [])
              place 0))
              version (subst (λ (l : ℕ). IsLabel rows turns node (newest turns node) l) number
              label_is))
        ]

        pub numbered_emit : AreNumbered rows emitted newest_labels (carried_labels ++ label ∷ [])
            held_labels earlier
        numbered_emit = record {
          each_node = are.each_node;
          are_newest = newest_now (Emit node port);
          each_emit =
              omega (
                arith,
                are.each_emit,
                length-append carried_labels (label ∷ []),
                ap length carried_now,
                length-append (carried turns) (newest turns node ∷ []),
              );
          are_carried = λ place one at.
              subst (λ (versions : List ℕ). IsLabel rows emitted one.node (get_or versions place 0)
              (get_or (carried_labels ++ label ∷ []) place 0)) (sym carried_now)
              (label_more rows turns (Plain (Emit node port)) one.node
              (get_or (carried turns ++ newest turns node ∷ []) place 0)
              (get_or (carried_labels ++ label ∷ []) place 0)
              (carries place one (ap (λ (emits : List Sent). slice_get emits place)
              (sym (emits_plain turns (Emit node port))) ∙ at)));
          each_port = are.each_port;
          are_held = λ number other neighbour version slot is.
              label_more rows turns (Plain (Emit node port)) neighbour version (get_or held_labels
              number 0)
              (are.are_held number other neighbour version slot
              (before_emit rows turns node port other neighbour version kept.numbered is));
          each_given = are.each_given ∙ sym (ap length (given_same (Emit node port)));
          are_earlier = earlier_now (Emit node port);
        }

      -- after a relabel of the node at a place
      module _ (node place : ℕ) (row : NodeRow) (at : slice_get rows place ≡ Some row) (id : row.id ≡
          node) where
        abbrev next : List Turn
        next = turns ++ Relabel node ∷ []

        abbrev number : ℕ
        number = length rows + length (relabelled turns)

        abbrev old : ℕ
        old = get_or newest_labels place 0

        old_is : IsLabel rows turns node (newest turns node) old
        old_is =
            subst (λ (id : ℕ). IsLabel rows turns id (newest turns id) old) id (are.are_newest place
            row at)

        newest_next : (i : ℕ) (other : NodeRow) → slice_get rows i ≡ Some other
            → IsLabel rows next other.id (newest next other.id) (get_or (set newest_labels place
            number) i 0)
        newest_next i other there = by (node == other.id) refl (newest_more turns (Relabel node)
            other.id)
          where
            by : (b : Bool) → (node == other.id) ≡ b
                → newest next other.id ≡ newest turns other.id + cond b 1 0
                → IsLabel rows next other.id (newest next other.id)
                (get_or (set newest_labels place number) i 0)
            by true e grown =
                let is_node : node ≡ other.id = eqb-true node other.id e in
                let here : i ≡ place =
                one_place rows kept.is_network i place other row there at (sym is_node ∙ sym id) in
                let within : place < length newest_labels =
                omega (arith, slice_get_within rows place row at, are.each_node) in
                let version : suc (newest turns node) ≡ newest next other.id =
                omega (arith, grown, ap (newest turns) is_node) in
                let fresh : IsLabel rows next node (suc (newest turns node)) number =
                (length (relabelled turns), refl, given_last turns node) in
                rw (here, get_or-set_same newest_labels place number 0 within)
                (subst (λ (v : ℕ). IsLabel rows next other.id v number) version
                (subst (λ (id : ℕ). IsLabel rows next id (suc (newest turns node)) number) is_node
                fresh))
            by false e grown =
                let differs : i ≢ place = λ same. eqb-false node other.id e
                (sym id ∙ ap (λ (row : NodeRow). row.id)
                (same_Some row other (sym at ∙ ap (slice_get rows) (sym same) ∙ there))) in
                let version : newest turns other.id ≡ newest next other.id = omega (arith, grown) in
                rw (get_or-set_other newest_labels place i number 0 differs)
                (subst (λ (v : ℕ). IsLabel rows next other.id v (get_or newest_labels i 0)) version
                (label_more rows turns (Relabel node) other.id (newest turns other.id)
                (get_or newest_labels i 0) (are.are_newest i other there)))

        many : length (relabelled next) ≡ length (relabelled turns) + 1
        many = ap length (relabelled_more turns (Relabel node)) ∙ length-append (relabelled turns)
            (node ∷ [])

        earlier_next : (k other before : ℕ) → IsGiven next other before k
            → IsLabel rows next other before (get_or (earlier ++ old ∷ []) k 0)
        earlier_next k other before given = elim (cases_lt k (length (relabelled turns))) [
          | inl under ↦
              rw (get_or_append_left earlier (old ∷ []) 0 k (omega (arith, under, are.each_given)))
              (label_more rows turns (Relabel node) other before (get_or earlier k 0)
              (are.are_earlier k other before (given_less turns (Relabel node) other before k under
              given)))
          | inr last ↦
              let within = slice_get_within (relabelled next) k other given.at in
              let here : k ≡ length (relabelled turns) = omega (arith, last, within, many) in
              let both = last_is turns node other before
              (subst (λ (k : ℕ). IsGiven next other before k) here given) in
              let value : old ≡ get_or (earlier ++ old ∷ []) k 0 =
              sym (get_or-append_seam earlier old [] 0)
              ∙ ap (λ (i : ℕ). get_or (earlier ++ old ∷ []) i 0) (are.each_given ∙ sym here) in
              label_more rows turns (Relabel node) other before (get_or (earlier ++ old ∷ []) k 0)
              (subst (λ (l : ℕ). IsLabel rows turns other before l) value
              (subst (λ (v : ℕ). IsLabel rows turns other v old) both.1
              (subst (λ (id : ℕ). IsLabel rows turns id (newest turns id) old) both.0 old_is)))
        ]

        carried_same : carried next ≡ carried turns
        carried_same = carried_more turns (Relabel node) ∙ append-nil (carried turns)

        plain_same : plain_of next ≡ plain_of turns
        plain_same = plain_more turns (Relabel node) ∙ append-nil (plain_of turns)

        pub numbered_relabel : AreNumbered rows next (set newest_labels place number) carried_labels
            held_labels (earlier ++ old ∷ [])
        numbered_relabel = record {
          each_node = length-set newest_labels place number ∙ are.each_node;
          are_newest = newest_next;
          each_emit = are.each_emit ∙ sym (ap length carried_same);
          are_carried = λ k emit there.
              subst (λ (versions : List ℕ). IsLabel rows next emit.node (get_or versions k 0)
              (get_or carried_labels k 0)) (sym carried_same)
              (label_more rows turns (Relabel node) emit.node (get_or (carried turns) k 0)
              (get_or carried_labels k 0) (are.are_carried k emit
              (ap (λ (events : List Event). slice_get (emits_of events) k) (sym plain_same) ∙
              there)));
          each_port = are.each_port;
          are_held = λ k other neighbour version slot is.
              label_more rows turns (Relabel node) neighbour version (get_or held_labels k 0)
              (are.are_held k other neighbour version slot
              (sym (held_relabel rows turns node other neighbour) ∙ is));
          each_given = omega (arith, are.each_given, many, length-append earlier (old ∷ []));
          are_earlier = earlier_next;
        }
