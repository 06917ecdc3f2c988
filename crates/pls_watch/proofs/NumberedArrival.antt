-- The numbers that are kept of labels, after an arrival.
use Rattle.std.proofs.Common.{◌≡◌, ◌≢◌, ◌∙◌, ℕ, suc, ◌<◌, ◌==◌, Bool, true, false, cond, max, List, [], ◌∷◌, ◌++◌, length, get_or, set, Some, slice_get, is_some, Option, None, refl, sym, ap, subst, arith, inl, inr}
use Rattle.std.proofs.lemmas.Bool.{eqb-true, eqb-false}
use Rattle.std.proofs.lemmas.List.{get_or-set_same, get_or-set_other, length-set}
use Rattle.pls_configuration.specs.declared.row.NodeRow.{NodeRow}
use Rattle.pls_schedule.specs.declared.event.Event.{Event}
use Rattle.pls_schedule.specs.declared.event.Event.TheVariants.{Arrive}
use Rattle.pls_sim.specs.Schedule.{Sent, emits_of, goes_to, has_heard}
use Rattle.pls_sim.specs.Ways.{IsSlot}
use Rattle.pls_watch.specs.declared.turn.Turn.{Turn}
use Rattle.pls_watch.specs.declared.turn.Turn.TheVariants.{Plain}
use Rattle.pls_watch.specs.Versions.{held, plain_of}
use Rattle.pls_watch.specs.inner.Held.{AreKept}
use Rattle.pls_watch.specs.inner.Numbers.{AreNumbered, IsLabel, IsOneOf}
use Rattle.pls_watch.proofs.More.{heard_held}
use Rattle.pls_watch.proofs.Arrival.{elsewhere_held, same_port}
use Rattle.pls_watch.proofs.Numbers.{label_more}
use Rattle.pls_watch.proofs.Numbered.{numbered_quiet}

module _ (rows : List NodeRow) (turns : List Turn)
    (newest_labels carried_labels held_labels earlier : List ℕ)
    (are : AreNumbered rows turns newest_labels carried_labels held_labels earlier)
    (versions sent holds : List ℕ) (kept : AreKept rows turns versions sent holds) where
  -- after an arrival of an emit that stands at a place, at the port of this number
  module _ (at : ℕ) (one : Sent) (sent_there : slice_get (emits_of (plain_of turns)) at ≡ Some one)
      (to number : ℕ) (goes_there : goes_to rows one ≡ Some to) (arrives : IsSlot rows number to
      one.node)
      (heard : Bool) (heard_is : heard ≡ has_heard rows (plain_of turns) to one.node)
      (within : number < length holds) (version label : ℕ)
      (version_is : version ≡ cond heard (max (get_or holds number 0) (get_or sent at 0)) (get_or
      sent at 0))
      (one_of : IsOneOf heard (get_or holds number 0) (get_or held_labels number 0) (get_or sent at
      0)
      (get_or carried_labels at 0) version label) where
    abbrev event : Event
    event = Arrive (suc at)

    -- what is held here has this label
    label_here : IsLabel rows turns one.node version label
    label_here = elim one_of [
      | inl old ↦ of_held (held rows turns to one.node) refl
          (sym (sym (heard_is ∙ heard_held rows turns to one.node) ∙ old.0)) old.1 old.2
      | inr came ↦
          rw (came.0, came.1, ap (λ (versions : List ℕ). get_or versions at 0) kept.are_carried)
          (are.are_carried at one sent_there)
    ]
      where
        of_held : (o : Option ℕ) → held rows turns to one.node ≡ o → true ≡ is_some o
            → version ≡ get_or holds number 0 → label ≡ get_or held_labels number 0
            → IsLabel rows turns one.node version label
        of_held None is some same_version same_label = absurd (cc)
        of_held (Some most) is some same_version same_label =
            rw (same_version, same_label, kept.are_held number to one.node most arrives is)
            (are.are_held number to one.node most arrives is)

    held_now : (k other neighbour found : ℕ) → IsSlot rows k other neighbour
        → held rows (turns ++ Plain event ∷ []) other neighbour ≡ Some found
        → IsLabel rows (turns ++ Plain event ∷ []) neighbour found (get_or (set held_labels number
        label) k 0)
    held_now k other neighbour found slot is = by (k == number) refl
      where
        by : (b : Bool) → (k == number) ≡ b → IsLabel rows (turns ++ Plain event ∷ []) neighbour
            found
            (get_or (set held_labels number label) k 0)
        by true e =
            let same : k ≡ number = eqb-true k number e in
            let both = same_port rows turns versions sent holds kept at one sent_there to
            number
            goes_there arrives heard heard_is within k other neighbour found same slot is in
            rw (
              same,
              get_or-set_same held_labels number label 0
                  (omega (arith, within, kept.each_port, are.each_port)),
            )
            (label_more rows turns (Plain event) neighbour found label
            (subst (λ (v : ℕ). IsLabel rows turns neighbour v label) (version_is ∙ both.1)
            (subst (λ (id : ℕ). IsLabel rows turns id version label) both.0 label_here)))
        by false e =
            let differs : k ≢ number = eqb-false k number e in
            rw (get_or-set_other held_labels number k label 0 differs)
            (label_more rows turns (Plain event) neighbour found (get_or held_labels k 0)
            (are.are_held k other neighbour found slot
            (sym (elsewhere_held rows turns versions sent holds kept at one sent_there to
            number
            goes_there arrives heard heard_is within k other neighbour differs slot) ∙ is)))

    pub numbered_arrive : AreNumbered rows (turns ++ Plain (Arrive (suc at)) ∷ []) newest_labels
        carried_labels (set held_labels number label) earlier
    numbered_arrive =
        numbered_quiet rows turns newest_labels carried_labels held_labels earlier are (Arrive (suc
        at)) refl (set held_labels number label)
        (length-set held_labels number label ∙ are.each_port) held_now
