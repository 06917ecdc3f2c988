-- Why a network is not spliced, and that a network is spliced in one way.
use Rattle.std.proofs.Common.{◌≡◌, ◌∙◌, ℕ, ◌<◌, ◌≤◌, ◌⊎◌, ◌==◌, inl, inr, Bool, true, false, not, List, [], ◌∷◌, find, length, slice_get, Option, Some, None, option_map, refl, sym, ap, subst, arith}
use Rattle.std.proofs.lemmas.Bool.{eq-eqb}
use Rattle.std.proofs.lemmas.Option.{slice_get-map}
use Rattle.pls_streams.specs.declared.refusal_number.TheConstants.{NO_RING, REJECTS}
use Rattle.pls_streams.specs.declared.text_error.TextError.TheVariants.{Sense}
use Rattle.pls_bits.specs.declared.code_name.CodeName.{CodeName}
use Rattle.pls_configuration.specs.declared.row.NodeRow.{NodeRow}
use Rattle.pls_configuration.specs.declared.verdict.Verdict.{Verdict}
use Rattle.pls_configuration.specs.declared.verdict.Verdict.TheVariants.{Accept, Reject}
use Rattle.pls_configuration.specs.Configuration.{IsNetwork, first_of}
use Rattle.pls_graph.proofs.Finds.{fails_where_none, found_place}
use Rattle.pls_graph_edits.proofs.Changing.{All-at, All_here}
use Rattle.pls_labels.specs.Seen.{Seen, views}
use Rattle.pls_scheme.specs.Judging.{AllAccept}
use Rattle.pls_components.specs.Components.{AreComponents, least_id}
use Rattle.pls_sim.specs.declared.outcome.Outcome.{Outcome}
use Rattle.pls_sim.specs.declared.outcome.Outcome.TheVariants.{Decided}
use Rattle.pls_report.specs.Report.{is_rejecting}
use Rattle.pls_splice.specs.Crossing.{HasNoPair, IsFirstPair}
use Rattle.pls_splice.specs.Ring.{IsRing, IsRingOrder, NamesNoRing, has_not_two}
use Rattle.pls_splice.proofs.OneOrder.{one_order}
use Rattle.pls_app.specs.Answer.{refusal_answer}
use Rattle.pls_app.specs.Reports.{decided_by}
use Rattle.pls_app.specs.Run.{IsJudged}
use Rattle.pls_app.specs.Said.{Answer}
use Rattle.pls_app.specs.Splice.{IsCrossed, IsUncrossed, Splices, crossed_answer, first_rejecting, no_ring_at, uncrossed_answer, splice_refusal}
use Rattle.pls_app.specs.inner.Tasks.{DoesSplice}
use Rattle.pls_app.proofs.RingParts.{no_second, second_least}

module _ (rows : List NodeRow) (net : IsNetwork rows) (parts : List (List ℕ))
    (are : AreComponents rows parts) where
  -- the identity that shows that a network is no ring
  pub names_no_ring : (id : ℕ) → NamesNoRing (find has_not_two rows) rows id
      → no_ring_at rows parts ≡ Some id
  names_no_ring id names = by (find has_not_two rows) names
    where
      by : (found : Option NodeRow) → NamesNoRing found rows id
          → first_of (option_map (λ (row : NodeRow). row.id) found
          ∷ option_map (least_id rows) (slice_get parts 1) ∷ []) ≡ Some id
      by (Some row) names = ap Some (sym names)
      by None apart = rw (second_least rows net id apart parts are) refl

  -- nothing shows it of a ring
  pub ring_named : IsRing rows → no_ring_at rows parts ≡ None
  ring_named ring =
      rw (all_pass (find has_not_two rows) refl, no_second rows net ring.connected parts are) refl
    where
      all_pass : (found : Option NodeRow) → find has_not_two rows ≡ found
          → find has_not_two rows ≡ None
      all_pass None found = found
      all_pass (Some row) found =
          let place : (i : ℕ) × (slice_get rows i ≡ Some row) × (has_not_two row ≡ true) =
          found_place has_not_two rows row found in
          let two : (length row.ports == 2) ≡ true = eq-eqb (length row.ports) 2
          (All_here (λ (row : NodeRow). length row.ports ≡ 2) rows ring.two place.0 row place.1) in
          let no : false ≡ true = sym (ap not two) ∙ place.2 in
          absurd (cc)

module _ (judge : Seen → Verdict) (rows : List NodeRow) (labels : List (List Bool))
    (parts : List (List ℕ)) where
  -- what is no ring is refused for it
  pub refused_ring : (id : ℕ) → no_ring_at rows parts ≡ Some id
      → splice_refusal judge rows labels parts ≡ Some (Sense NO_RING id)
  refused_ring id named = rw named refl

  -- a ring with a node that rejects for that
  pub refused_node : (id : ℕ) → no_ring_at rows parts ≡ None
      → first_rejecting (decided_by judge rows labels) ≡ Some id
      → splice_refusal judge rows labels parts ≡ Some (Sense REJECTS id)
  refused_node id ring rejects = rw (ring, rejects) refl

  -- and a ring without one is not
  pub unrefused : no_ring_at rows parts ≡ None
      → first_rejecting (decided_by judge rows labels) ≡ None
      → splice_refusal judge rows labels parts ≡ None
  unrefused ring none = rw (ring, none) refl

  -- what is not refused has no node that rejects
  no_reject : splice_refusal judge rows labels parts ≡ None
      → first_rejecting (decided_by judge rows labels) ≡ None
  no_reject none =
      by (no_ring_at rows parts) (first_rejecting (decided_by judge rows labels)) none
    where
      by : (ring rejecting : Option ℕ)
          → first_of (option_map (λ id. Sense NO_RING id) ring
          ∷ option_map (λ id. Sense REJECTS id) rejecting ∷ []) ≡ None → rejecting ≡ None
      by (Some id) rejecting none = absurd (cc)
      by None (Some id) none = absurd (cc)
      by None None none = refl

  -- so all of them accept
  pub unrefused_accept : splice_refusal judge rows labels parts ≡ None → AllAccept judge rows labels
  unrefused_accept none =
      let outcome : Seen → ℕ × Outcome = λ view. (view.id, Decided (judge view)) in
      let rejects : ℕ × Outcome → Bool = λ row. is_rejecting row.1 in
      let found : find rejects (decided_by judge rows labels) ≡ None =
      unfound (find rejects (decided_by judge rows labels)) (no_reject none) in
      All-at (λ (view : Seen). judge view ≡ Accept) (views rows labels) (λ i view at.
      accepts (judge view) (fails_where_none rejects (decided_by judge rows labels) i (outcome view)
      found (slice_get-map outcome (views rows labels) i ∙ ap (option_map outcome) at)))
    where
      unfound : (found : Option (ℕ × Outcome))
          → option_map (λ (row : ℕ × Outcome). row.0) found ≡ None → found ≡ None
      unfound None none = refl
      unfound (Some row) none = absurd (cc)

      accepts : (verdict : Verdict) → is_rejecting (Decided verdict) ≡ false → verdict ≡ Accept
      accepts Accept fails = refl
      accepts (Reject leaf rule) fails = absurd (cc)

-- two pairs that are both the first are one
one_pair : (rows : List NodeRow) (labels : List (List Bool)) (order : List ℕ) (i j k l : ℕ)
    → IsFirstPair rows labels order i j → IsFirstPair rows labels order k l → (i ≡ k) × (j ≡ l)
one_pair rows labels order i j k l one other =
    by (one.first k l other.pair) (other.first i j one.pair)
  where
    by : (i < k) ⊎ ((i ≡ k) × (j ≤ l)) → (k < i) ⊎ ((k ≡ i) × (l ≤ j)) → (i ≡ k) × (j ≡ l)
    by (inl less) (inl more) = absurd (omega arith)
    by (inl less) (inr same) = let e = same.0 in absurd (omega arith)
    by (inr same) (inl more) = let e = same.0 in absurd (omega arith)
    by (inr same) (inr back) =
        let up = same.1 in
        let down = back.1 in
        (same.0, omega arith)

-- what was read is what the input says
pub spliced_so : (judge own : Seen → Verdict) (code name : CodeName) (net rows : List NodeRow)
    (store labels : List (List Bool)) (answer : Answer) → judge ≡ own → code ≡ name → net ≡ rows
    → store ≡ labels → DoesSplice judge code net store answer
    → DoesSplice own name rows labels answer
spliced_so judge own code name net rows store labels answer judges codes nets stores does =
    subst (λ (judge : Seen → Verdict). DoesSplice judge name rows labels answer) judges
    (subst (λ (code : CodeName). DoesSplice judge code rows labels answer) codes
    (subst (λ (net : List NodeRow). DoesSplice judge code net labels answer) nets
    (subst (λ (labels : List (List Bool)). DoesSplice judge code net labels answer) stores does)))

module _ (judge : Seen → Verdict) (code : CodeName) (rows : List NodeRow) (net : IsNetwork rows)
    (labels : List (List Bool)) where
  -- what is answered to a network that is no ring
  pub splice_no_ring : (id : ℕ) → NamesNoRing (find has_not_two rows) rows id → (answer : Answer)
      → answer ≡ refusal_answer (Sense NO_RING id) → DoesSplice judge code rows labels answer
  splice_no_ring id names answer says parts are =
      let named = names_no_ring rows net parts are id names in
      inl (Sense NO_RING id, refused_ring judge rows labels parts id named, says)

  module _ (order : List ℕ) (round : IsRingOrder rows order) (outcomes : List (ℕ × Outcome))
      (decided : outcomes ≡ decided_by judge rows labels) where
    -- to a ring with a node that rejects
    pub splice_rejects : (id : ℕ) → first_rejecting outcomes ≡ Some id → (answer : Answer)
        → answer ≡ refusal_answer (Sense REJECTS id) → DoesSplice judge code rows labels answer
    splice_rejects id rejects answer says parts are =
        let ring = ring_named rows net parts are round.ring in
        inl (
          Sense REJECTS id,
          refused_node judge rows labels parts id ring
              (ap first_rejecting (sym decided) ∙ rejects),
          says,
        )

    -- and to one without
    splice_yields : first_rejecting outcomes ≡ None → (answer : Answer)
        → IsCrossed code rows labels order answer ⊎ IsUncrossed rows labels order answer
        → DoesSplice judge code rows labels answer
    splice_yields none answer splices parts are =
        let ring = ring_named rows net parts are round.ring in
        inr (
          unrefused judge rows labels parts ring (ap first_rejecting (sym decided) ∙ none),
          record { order = order; round = round; splices = splices },
        )

    pub splice_crosses : first_rejecting outcomes ≡ None → (i j : ℕ)
        → IsFirstPair rows labels order i j → (answer : Answer)
        → answer ≡ crossed_answer code rows labels order i j
        → DoesSplice judge code rows labels answer
    splice_crosses none i j pair answer says =
        splice_yields none answer (inl (record { i = i; j = j; pair = pair; says = says }))

    pub splice_finds_none : first_rejecting outcomes ≡ None → HasNoPair rows labels order
        → DoesSplice judge code rows labels uncrossed_answer
    splice_finds_none none no_pair =
        splice_yields none uncrossed_answer (inr (record { none = no_pair; says = refl }))

module _ (code : CodeName) (rows : List NodeRow) (labels : List (List Bool)) where
  -- a network is spliced in one way
  pub one_splice : IsNetwork rows → (answer other : Answer) → Splices code rows labels answer
      → Splices code rows labels other → answer ≡ other
  one_splice net answer other one two =
      let same : two.order ≡ one.order =
      one_order rows net two.order one.order two.round one.round in
      by one.order one.splices
      (subst (λ (order : List ℕ). IsCrossed code rows labels order other
      ⊎ IsUncrossed rows labels order other) same two.splices)
    where
      by : (order : List ℕ)
          → IsCrossed code rows labels order answer ⊎ IsUncrossed rows labels order answer
          → IsCrossed code rows labels order other ⊎ IsUncrossed rows labels order other
          → answer ≡ other
      by order (inl mine) (inl theirs) =
          let same = one_pair rows labels order mine.i mine.j theirs.i theirs.j mine.pair
          theirs.pair in
          let first = same.0 in
          let second = same.1 in
          mine.says ∙ (λ n. crossed_answer code rows labels order (first n) (second n))
          ∙ sym theirs.says
      by order (inl mine) (inr none) = absurd (none.none mine.i mine.j mine.pair.pair)
      by order (inr none) (inl theirs) = absurd (none.none theirs.i theirs.j theirs.pair.pair)
      by order (inr none) (inr too) = none.says ∙ sym too.says

  -- it ends with `Done` or `No`
  pub splice_ends : (answer : Answer) → Splices code rows labels answer → IsJudged answer.status
  splice_ends answer yields = elim yields.splices [
    | inl crossed ↦ inl (ap (λ (answer : Answer). answer.status) crossed.says)
    | inr none ↦ inr (ap (λ (answer : Answer). answer.status) none.says)
  ]
