-- What is kept after an arrival.
use Rattle.std.proofs.Common.{◌≡◌, ◌≢◌, ◌∙◌, ℕ, suc, ◌<◌, ◌≤◌, Bool, true, false, ◌&&◌, ◌==◌, cond, max, List, [], ◌∷◌, ◌++◌, length, get_or, set, Option, Some, None, is_some, slice_get, refl, sym, ap, subst, arith, append-nil}
use Rattle.std.specs.Option.{option_map_or}
use Rattle.std.proofs.lemmas.Bool.{eq-eqb, eqb-true, eqb-false}
use Rattle.std.proofs.lemmas.List.{get_or-set_same, get_or-set_other, length-set}
use Rattle.std.proofs.lemmas.Option.{same_Some, slice_get_within}
use Rattle.pls_configuration.specs.declared.row.NodeRow.{NodeRow}
use Rattle.pls_configuration.specs.Configuration.{IsNetwork}
use Rattle.pls_schedule.specs.declared.event.Event.{Event}
use Rattle.pls_schedule.specs.declared.event.Event.TheVariants.{Arrive}
use Rattle.pls_sim.specs.Schedule.{Sent, emits_of, goes, goes_to, has_heard}
use Rattle.pls_sim.specs.Ways.{IsSlot}
use Rattle.pls_sim.proofs.Heard.{emit_kept}
use Rattle.pls_sim.proofs.Numbering.{one_number, one_port}
use Rattle.pls_watch.specs.declared.turn.Turn.{Turn}
use Rattle.pls_watch.specs.declared.turn.Turn.TheVariants.{Plain}
use Rattle.pls_watch.specs.Versions.{arrived, brought, carried, greatest_in, held, plain_of}
use Rattle.pls_watch.specs.inner.Held.{AreHeld, AreKept}
use Rattle.pls_watch.proofs.More.{greatest_more, heard_held, held_more, with_one}
use Rattle.pls_watch.proofs.Keep.{kept_quiet}

module _ (rows : List NodeRow) (turns : List Turn) (versions sent holds : List ℕ)
    (kept : AreKept rows turns versions sent holds) where
  abbrev net : IsNetwork rows
  net = kept.is_network

  abbrev emits : List Sent
  emits = emits_of (plain_of turns)

  -- after an arrival of an emit that stands at a place, at the port of this number
  module _ (at : ℕ) (one : Sent) (sent_there : slice_get emits at ≡ Some one) (to number : ℕ)
      (goes_there : goes_to rows one ≡ Some to) (arrives : IsSlot rows number to one.node)
      (heard : Bool) (heard_is : heard ≡ has_heard rows (plain_of turns) to one.node)
      (within : number < length holds) where
    abbrev came : ℕ
    came = get_or sent at 0

    abbrev now : ℕ
    now = cond heard (max (get_or holds number 0) came) came

    event : Event
    event = Arrive (suc at)

    few : at < length emits
    few = slice_get_within emits at one sent_there

    brought_is : (neighbour other : ℕ)
        → brought rows (emits ++ []) (carried turns ++ []) neighbour other (Arrive (suc at))
        ≡ cond ((one.node == neighbour) && (to == other)) (came ∷ []) []
    brought_is neighbour other =
        ap (λ (b : Bool). cond b (get_or (carried turns ++ []) at 0 ∷ []) [])
        (ap (λ (sent : Option Sent). option_map_or (goes rows neighbour other) sent false)
        (emit_kept emits [] (suc at) (omega (arith, few)) ∙ sent_there)
        ∙ ap (λ (end : Option ℕ). (one.node == neighbour)
        && option_map_or (λ node. node == other) end false) goes_there)
        ∙ ap (λ (versions : List ℕ). cond ((one.node == neighbour) && (to == other))
        (get_or versions at 0 ∷ []) []) (append-nil (carried turns) ∙ sym kept.are_carried)

    held_now : (neighbour other : ℕ)
        → held rows (turns ++ Plain (Arrive (suc at)) ∷ []) other neighbour
        ≡ greatest_in (arrived rows turns other neighbour
        ++ cond ((one.node == neighbour) && (to == other)) (came ∷ []) [])
    held_now neighbour other =
        held_more rows turns (Arrive (suc at)) other neighbour kept.numbered
        ∙ ap (λ (last : List ℕ). greatest_in (arrived rows turns other neighbour ++ last))
        (brought_is neighbour other)

    -- what is written is the greatest with this one
    written : (held_before : Option ℕ) → held rows turns to one.node ≡ held_before
        → with_one held_before came ≡ now
    written None is =
        ap (λ (b : Bool). cond b (max (get_or holds number 0) came) came)
        (sym (heard_is ∙ heard_held rows turns to one.node ∙ ap is_some is))
    written (Some most) is =
        ap (λ (n : ℕ). max n came) (sym (kept.are_held number to one.node most arrives is))
        ∙ ap (λ (b : Bool). cond b (max (get_or holds number 0) came) came)
        (sym (heard_is ∙ heard_held rows turns to one.node ∙ ap is_some is))

    -- nowhere but at the node where it arrives is something else held
    pub other_held : (neighbour other : ℕ) → to ≢ other
        → held rows (turns ++ Plain (Arrive (suc at)) ∷ []) other neighbour
        ≡ held rows turns other neighbour
    other_held neighbour other differs =
        held_now neighbour other
        ∙ ap (λ (b : Bool). greatest_in (arrived rows turns other neighbour ++ cond b (came ∷ []) []))
        (by (one.node == neighbour) (to == other) refl)
        ∙ ap greatest_in (append-nil (arrived rows turns other neighbour))
      where
        by : (a b : Bool) → (to == other) ≡ b → (a && b) ≡ false
        by a true is = absurd (differs (eqb-true to other is))
        by true false is = refl
        by false false is = refl

    -- nor there, where what arrives is no newer than what was heard
    module _ (has : heard ≡ true) (older : came ≤ get_or holds number 0) where
      older_one : greatest_in (arrived rows turns to one.node ++ came ∷ [])
          ≡ held rows turns to one.node
      older_one =
          greatest_more (arrived rows turns to one.node) came
          ∙ by (held rows turns to one.node) refl
          (sym has ∙ heard_is ∙ heard_held rows turns to one.node)
        where
          by : (o : Option ℕ) → held rows turns to one.node ≡ o → true ≡ is_some o
              → Some (with_one o came) ≡ o
          by None is some = absurd (cc)
          by (Some most) is some =
              let greater : max most came ≡ most =
              omega (arith, older, kept.are_held number to one.node most arrives is) in
              ap Some greater

      pub older_held : (neighbour other : ℕ)
          → held rows (turns ++ Plain (Arrive (suc at)) ∷ []) other neighbour
          ≡ held rows turns other neighbour
      older_held neighbour other =
          held_now neighbour other ∙ by (one.node == neighbour) (to == other) refl refl
        where
          by : (a b : Bool) → (one.node == neighbour) ≡ a → (to == other) ≡ b
              → greatest_in (arrived rows turns other neighbour ++ cond (a && b) (came ∷ []) [])
              ≡ held rows turns other neighbour
          by false b is_a is_b = ap greatest_in (append-nil (arrived rows turns other neighbour))
          by true false is_a is_b = ap greatest_in (append-nil (arrived rows turns other neighbour))
          by true true is_a is_b =
              subst (λ (end : ℕ). greatest_in (arrived rows turns end neighbour ++ came ∷ [])
              ≡ held rows turns end neighbour) (eqb-true to other is_b)
              (subst (λ (from : ℕ). greatest_in (arrived rows turns to from ++ came ∷ [])
              ≡ held rows turns to from) (eqb-true one.node neighbour is_a) older_one)

    -- what is held here now
    pub here_held : held rows (turns ++ Plain (Arrive (suc at)) ∷ []) to one.node ≡ Some now
    here_held =
        held_now one.node to
        ∙ rw (eq-eqb one.node one.node refl, eq-eqb to to refl)
        (greatest_more (arrived rows turns to one.node) came)
        ∙ ap Some (written (held rows turns to one.node) refl)

    -- and elsewhere what was held
    pub elsewhere_held : (k other neighbour : ℕ) → k ≢ number → IsSlot rows k other neighbour
        → held rows (turns ++ Plain (Arrive (suc at)) ∷ []) other neighbour
        ≡ held rows turns other neighbour
    elsewhere_held k other neighbour differs s =
        held_now neighbour other
        ∙ ap (λ (b : Bool). greatest_in (arrived rows turns other neighbour ++ cond b (came ∷ []) []))
        (both (one.node == neighbour) (to == other) refl refl)
        ∙ ap greatest_in (append-nil (arrived rows turns other neighbour))
      where
        both : (a b : Bool) → (one.node == neighbour) ≡ a → (to == other) ≡ b
            → ((one.node == neighbour) && (to == other)) ≡ false
        both false b is_a is_b = rw is_a refl
        both true false is_a is_b = rw (is_a, is_b) refl
        both true true is_a is_b =
            let from = eqb-true one.node neighbour is_a in
            let end = eqb-true to other is_b in
            absurd (differs (one_number rows net k number other neighbour s
            (subst (λ (n : ℕ). IsSlot rows number n neighbour) end
            (subst (λ (n : ℕ). IsSlot rows number to n) from arrives))))

    -- the port is the one where something arrives, or another one
    pub same_port : (k other neighbour version : ℕ) → k ≡ number → IsSlot rows k other neighbour
        → held rows (turns ++ Plain (Arrive (suc at)) ∷ []) other neighbour ≡ Some version
        → (one.node ≡ neighbour) × (now ≡ version)
    same_port k other neighbour version same s is =
        let both : (to ≡ other) × (one.node ≡ neighbour) =
        one_port rows number to one.node other neighbour arrives
        (subst (λ (k : ℕ). IsSlot rows k other neighbour) same s) in (
          both.1,
          same_Some now version (sym here_held
              ∙ ap (λ (node : ℕ). held rows (turns ++ Plain (Arrive (suc at)) ∷ []) node one.node)
              both.0
              ∙ ap (held rows (turns ++ Plain (Arrive (suc at)) ∷ []) other) both.1 ∙ is),
        )

    are_held : AreHeld rows (turns ++ Plain (Arrive (suc at)) ∷ []) (set holds number now)
    are_held k other neighbour most s is = by (k == number) refl
      where
        by : (b : Bool) → (k == number) ≡ b → get_or (set holds number now) k 0 ≡ most
        by true e =
            let same : k ≡ number = eqb-true k number e in
            rw (same, get_or-set_same holds number now 0 within)
            (same_port k other neighbour most same s is).1
        by false e =
            let differs : k ≢ number = eqb-false k number e in
            rw (get_or-set_other holds number k now 0 differs)
            (kept.are_held k other neighbour most s
            (sym (elsewhere_held k other neighbour differs s) ∙ is))

    pub kept_arrive : AreKept rows (turns ++ Plain (Arrive (suc at)) ∷ []) versions sent
        (set holds number now)
    kept_arrive =
        kept_quiet rows turns versions sent holds kept (Arrive (suc at)) refl (
          omega arith,
          omega (arith, few),
        ) (set holds number now)
        (length-set holds number now) are_held
