-- What is known of an emit that arrives.
use Rattle.std.proofs.Common.{◌≡◌, ◌≢◌, ◌∙◌, ℕ, zero, suc, ◌<◌, ◌≤◌, ◌==◌, Bool, true, false, cond, max, List, [], ◌∷◌, ◌++◌, length, get_or, set, position, Option, Some, None, is_none, is_some, slice_get, refl, sym, ap, subst, arith}
use Rattle.std.specs.Option.{IfSome}
use Rattle.std.proofs.lemmas.Bool.{eqb-true, lt-leb}
use Rattle.pls_configuration.specs.declared.row.Port.{Port}
use Rattle.pls_sim.proofs.Refusing.{no_emit}
use Rattle.std.proofs.lemmas.Option.{slice_get_within}
use Rattle.pls_configuration.specs.declared.row.NodeRow.{NodeRow}
use Rattle.pls_configuration.specs.Configuration.{IsNetwork, first_of, ports_in, refused_if}
use Rattle.pls_graph.proofs.Beside.{one_place}
use Rattle.pls_graph.proofs.Finds.{item_at}
use Rattle.pls_graph.proofs.Placed.{place_of_row}
use Rattle.pls_schedule.specs.declared.event.Event.{Event}
use Rattle.pls_schedule.specs.declared.event.Event.TheVariants.{Arrive}
use Rattle.pls_sim.specs.declared.event_error.EventError.{EventError}
use Rattle.pls_sim.specs.declared.event_error.EventError.TheVariants.{Full, NoEmit}
use Rattle.pls_sim.specs.Schedule.{Sent, emit_number, emits_of, goes_to, has_heard}
use Rattle.pls_sim.specs.Applying.{Played, is_full}
use Rattle.pls_sim.specs.Arriving.{ArrivesAt, GoesToPlace}
use Rattle.pls_sim.specs.Ways.{IsPlaceOf, IsSlot}
use Rattle.pls_sim.proofs.Keeping.{few_sent}
use Rattle.pls_sim.proofs.Numbering.{slot_within, value_at}
use Rattle.pls_watch.specs.declared.turn.Turn.{Turn}
use Rattle.pls_watch.specs.declared.turn.Turn.TheVariants.{Plain, Relabel}
use Rattle.pls_watch.specs.Versions.{held, plain_of}
use Rattle.pls_watch.specs.Turning.{Turned, refused_in, round_of, turn_refusal}
use Rattle.pls_watch.specs.inner.Held.{AreKept, IsRound}
use Rattle.pls_watch.specs.inner.Numbers.{AreNumbered, IsOneOf}
use Rattle.pls_watch.proofs.More.{heard_held, many_carried}
use Rattle.pls_watch.proofs.Arrival.{kept_arrive, older_held, other_held}
use Rattle.pls_watch.proofs.NumberedArrival.{numbered_arrive}

pub plain_few : (turns : List Turn) → length (plain_of turns) ≤ length turns
plain_few [] = omega arith
plain_few (Plain event ∷ turns) = omega (arith, plain_few turns)
plain_few (Relabel node ∷ turns) = omega (arith, plain_few turns)

-- no more is carried than there are turns
pub few_carried : (rows : List NodeRow) (turns : List Turn) (versions sent holds : List ℕ)
    → AreKept rows turns versions sent holds → length sent ≤ length turns
few_carried rows turns versions sent holds kept =
    omega (
      arith,
      ap length kept.are_carried,
      many_carried turns,
      few_sent (plain_of turns),
      plain_few turns,
    )

-- where there is room, a turn is refused as the round refuses it
pub by_round : (turned : Turned) (turn : Turn) → length turned.turns < turned.most
    → turn_refusal turned turn ≡ refused_in (round_of turned) turn
by_round turned turn room =
    ap (λ (full : Bool). first_of (refused_if full Full ∷ refused_in (round_of turned) turn ∷ []))
    (lt-leb turned.most (length turned.turns) room)
    ∙ by (refused_in (round_of turned) turn)
  where
    by : (o : Option EventError) → first_of (None ∷ o ∷ []) ≡ o
    by None = refl
    by (Some error) = refl

-- where there is room for a turn, there is room in the round
pub room_in_round : (turned : Turned) → length turned.turns < turned.most
    → length (plain_of turned.turns) < turned.most
room_in_round turned room = omega (arith, room, plain_few turned.turns)

module _ (rows : List NodeRow) (turns : List Turn) (versions sent holds : List ℕ)
    (kept : AreKept rows turns versions sent holds) (most : ℕ) (played : Played)
    (round : IsRound rows most turns played) (number : ℕ) (few : number ≤ length sent) where
  abbrev emits : List Sent
  emits = emits_of (plain_of turns)

  pub few_emits : number ≤ length (emits_of played.events)
  few_emits = omega (
    arith,
    few,
    ap length kept.are_carried,
    many_carried turns,
    ap (λ (events : List Event). length (emits_of events)) round.events,
  )

  module _ (place : ℕ) (is : number ≡ suc place) where
    one : (one : Sent) × (slice_get emits place ≡ Some one)
    one = item_at emits place
        (omega (arith, is, few, ap length kept.are_carried, many_carried turns))

    names : emit_number (emits_of played.events) number ≡ Some one.0
    names =
        ap (λ (events : List Event). emit_number (emits_of events) number) round.events
        ∙ ap (emit_number emits) is ∙ one.1

    module _ (at : ℕ) (goes : (emit : Sent) → emit_number (emits_of played.events) number ≡ Some
        emit
        → ArrivesAt played.network emit at) where
      to : (to : ℕ) × (goes_to rows one.0 ≡ Some to) × IsSlot rows at to one.0.node
      to = subst (λ (rows : List NodeRow). ArrivesAt rows one.0 at) round.network
          (goes one.0 names)

      pub at_within : at < ports_in rows
      at_within = slot_within rows at to.0 one.0.node to.2

      module _ (end : ℕ) (end_is : (emit : Sent)
          → emit_number (emits_of played.events) number ≡ Some emit
          → GoesToPlace played.network emit end) where
        receiver : IsPlaceOf rows to.0 end
        receiver =
            subst (λ (rows : List NodeRow). GoesToPlace rows one.0 end) round.network
            (end_is one.0 names) to.0 to.1

        pub end_within : end < length rows
        end_within = slice_get_within rows end receiver.row receiver.stands

        module _ (heard : Bool) (heard_is : (row : NodeRow) (neighbour : ℕ)
            → slice_get played.network end ≡ Some row → IsSlot played.network at row.id neighbour
            → heard ≡ has_heard played.network played.events row.id neighbour) where
          heard_here : heard ≡ has_heard rows (plain_of turns) to.0 one.0.node
          heard_here =
              heard_is receiver.row one.0.node
              (ap (λ (rows : List NodeRow). slice_get rows end) round.network ∙ receiver.stands)
              (subst (λ (rows : List NodeRow). IsSlot rows at receiver.row.id one.0.node)
              (sym round.network)
              (subst (λ (id : ℕ). IsSlot rows at id one.0.node) (sym receiver.is) to.2))
              ∙ ap (λ (rows : List NodeRow). has_heard rows played.events receiver.row.id one.0.node)
              round.network
              ∙ ap (λ (events : List Event). has_heard rows events receiver.row.id one.0.node)
              round.events
              ∙ ap (λ (id : ℕ). has_heard rows (plain_of turns) id one.0.node) receiver.is

          -- what a node holds that is not the one where it arrives
          pub held_elsewhere : (i : ℕ) (other : NodeRow) (neighbour : ℕ)
              → slice_get rows i ≡ Some other → end ≢ i
              → held rows (turns ++ Plain (Arrive number) ∷ []) other.id neighbour
              ≡ held rows turns other.id neighbour
          held_elsewhere i other neighbour stands differs =
              rw is
              (other_held rows turns versions sent holds kept place one.0 one.1 to.0 at to.1
              to.2 heard heard_here (omega (arith, at_within, kept.each_port)) neighbour other.id
              (λ same. differs (one_place rows kept.is_network end i receiver.row other
              receiver.stands stands (receiver.is ∙ same))))

          -- and what all nodes hold where it is no newer
          pub held_still : heard ≡ true → (old came : ℕ) → came ≤ old → old ≡ get_or holds at old
              → came ≡ get_or sent place came → (node neighbour : ℕ)
              → held rows (turns ++ Plain (Arrive number) ∷ []) node neighbour
              ≡ held rows turns node neighbour
          held_still has old came older old_is came_is node neighbour =
              let within : at < length holds = omega (arith, at_within, kept.each_port) in
              let old_here = value_at holds at old within old_is in
              let came_here = value_at sent place came (omega (arith, is, few)) came_is in
              rw is
              (older_held rows turns versions sent holds kept place one.0 one.1 to.0 at to.1
              to.2 heard heard_here within has (omega (arith, older, old_here, came_here))
              neighbour node)

          pub kept_now : (old came now : ℕ) → old ≡ get_or holds at old → came ≡ get_or sent place
              came
              → now ≡ cond heard (max old came) came
              → AreKept rows (turns ++ Plain (Arrive number) ∷ []) versions sent (set holds at
              now)
          kept_now old came now old_is came_is now_is =
              let within : at < length holds = omega (arith, at_within, kept.each_port) in
              let old_here = value_at holds at old within old_is in
              let came_here = value_at sent place came (omega (arith, is, few)) came_is in
              rw (is, now_is, ← old_here, ← came_here)
              (kept_arrive rows turns versions sent holds kept place one.0 one.1 to.0 at to.1
              to.2
              heard heard_here within)

          pub numbered_now : (newest_labels carried_labels held_labels earlier : List ℕ)
              → AreNumbered rows turns newest_labels carried_labels held_labels earlier
              → (old old_label came came_label version label : ℕ) → old ≡ get_or holds at old
              → old_label ≡ get_or held_labels at old_label → came ≡ get_or sent place came
              → came_label ≡ get_or carried_labels place came_label
              → version ≡ cond heard (max old came) came
              → IsOneOf heard old old_label came came_label version label
              → AreNumbered rows (turns ++ Plain (Arrive number) ∷ []) newest_labels carried_labels
              (set held_labels at label) earlier
          numbered_now newest_labels carried_labels held_labels earlier are old old_label came
              came_label
              version label old_is old_label_is came_is came_label_is version_is one_of =
              let within : at < length holds = omega (arith, at_within, kept.each_port) in
              let old_here = value_at holds at old within old_is in
              let old_label_here =
              value_at held_labels at old_label (omega (arith, at_within, are.each_port))
              old_label_is in
              let came_here = value_at sent place came (omega (arith, is, few)) came_is in
              let came_label_here = value_at carried_labels place came_label
              (omega (arith, is, few, are.each_emit, ap length kept.are_carried)) came_label_is in
              rw is
              (numbered_arrive rows turns newest_labels carried_labels held_labels earlier are
              versions
              sent holds kept place one.0 one.1 to.0 at to.1 to.2 heard heard_here within
              version label
              (rw (old_here, came_here) version_is)
              (rw (old_here, old_label_here, came_here, came_label_here) one_of))

-- what cannot be proves anything
pub never : (P : Type 0) → true ≡ false → P
never P e = absurd (cc)

-- a node and its port by their numbers
pub port_there : (rows : List NodeRow) (i p : ℕ) → i < length rows
    → IfSome (slice_get rows i) (λ row. p < length row.ports)
    → (row : NodeRow) × (port : Port) × (slice_get rows i ≡ Some row)
    × (slice_get row.ports p ≡ Some port)
port_there rows i p inside few =
    let row = item_at rows i inside in
    let port = item_at row.0.ports p
    (subst (λ o. IfSome o (λ (row : NodeRow). p < length row.ports)) row.1 few) in
    (row.0, port.0, row.1, port.1)

module _ (rows : List NodeRow) (turns : List Turn) (versions sent holds : List ℕ)
    (kept : AreKept rows turns versions sent holds) (most : ℕ) (played : Played)
    (round : IsRound rows most turns played) (node neighbour : ℕ) (heard : Bool)
    (is : heard ≡ has_heard played.network played.events node neighbour) where
  heard_some : heard ≡ is_some (held rows turns node neighbour)
  heard_some =
      is
      ∙ ap (λ (rows : List NodeRow). has_heard rows played.events node neighbour) round.network
      ∙ ap (λ (events : List Event). has_heard rows events node neighbour) round.events
      ∙ heard_held rows turns node neighbour

  pub none_held : heard ≡ false → None ≡ held rows turns node neighbour
  none_held silent = by (held rows turns node neighbour) (sym heard_some ∙ silent)
    where
      by : (o : Option ℕ) → is_some o ≡ false → None ≡ o
      by None e = refl
      by (Some version) e = absurd (cc)

  pub held_value : heard ≡ true → (number value : ℕ) → IsSlot rows number node neighbour
      → number < length holds → value ≡ get_or holds number value
      → Some value ≡ held rows turns node neighbour
  held_value has number value slot inside value_is = by (held rows turns node neighbour) refl
      heard_some
    where
      by : (o : Option ℕ) → held rows turns node neighbour ≡ o → heard ≡ is_some o → Some value ≡ o
      by None e heard_is = never (Some value ≡ None) (sym has ∙ heard_is)
      by (Some version) e heard_is =
          ap Some (sym (value_at holds number value inside value_is)
          ∙ kept.are_held number node neighbour version slot e)

-- no emit has a number that is 0 or above all
past_end : {X : Type 0} (xs : List X) (k : ℕ) → length xs ≤ k → slice_get xs k ≡ None
past_end [] k past = refl
past_end (x ∷ xs) zero past = absurd (omega (arith, past))
past_end (x ∷ xs) (suc k) past = past_end xs k (omega (arith, past))

pub zero_emit : (emits : List Sent) (number : ℕ) → number ≡ 0 → emit_number emits number ≡ None
zero_emit emits number is = ap (emit_number emits) is

pub past_emit : (emits : List Sent) (number : ℕ) → length emits < number
    → emit_number emits number ≡ None
past_emit emits zero past = absurd (omega (arith, past))
past_emit emits (suc place) past = past_end emits place (omega (arith, past))

pub not_emitted : (turned : Turned) (number : ℕ) → length turned.turns < turned.most
    → emit_number (emits_of (plain_of turned.turns)) number ≡ None
    → turn_refusal turned (Plain (Arrive number)) ≡ Some NoEmit
not_emitted turned number room none =
    by_round turned (Plain (Arrive number)) room
    ∙ no_emit (is_full (round_of turned)) false false
    (is_none (emit_number (emits_of (plain_of turned.turns)) number))
    (lt-leb turned.most (length (plain_of turned.turns)) (omega (
      arith,
      room,
      plain_few
          turned.turns,
    )))
    refl refl (ap is_none none)

-- the node at a place has another identity than one that is not found there
pub not_there : (rows : List NodeRow) → IsNetwork rows → (i : ℕ) (row : NodeRow)
    → slice_get rows i ≡ Some row → (node : ℕ) → position (λ row. node == row.id) rows ≢ Some i
    → (node == row.id) ≡ false
not_there rows valid i row stands node differs = by (node == row.id) refl
  where
    by : (b : Bool) → (node == row.id) ≡ b → b ≡ false
    by true is =
        absurd (differs (subst (λ (id : ℕ). position (λ row. id == row.id) rows ≡ Some i)
        (sym (eqb-true node row.id is)) (place_of_row rows valid i row stands)))
    by false is = refl

-- a place among the rows that are seen
pub place_there : (rows seen : List NodeRow) (node : ℕ) (place : Option ℕ) → seen ≡ rows
    → place ≡ position (λ row. node == row.id) seen → position (λ row. node == row.id) rows ≡ place
place_there rows seen node place same is =
    ap (position (λ (row : NodeRow). node == row.id)) (sym same) ∙ sym is
