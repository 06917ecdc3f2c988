use Rattle.std.proofs.Common.{◌≡◌, ◌∙◌, ℕ, ◌+◌, Bool, cond, List, get_or, take, count_by, sym, ap, arith}
use Rattle.std.proofs.lemmas.List.{take_all}
use Rattle.pls_sim.specs.declared.outcome.Outcome.{Outcome}
use Rattle.pls_report.specs.Report.{is_rejecting, is_waiting}
use Rattle.pls_components.specs.Components.{items_at}
use Rattle.pls_app.proofs.ComponentRows.{count_few, count_front, count_more, outcome_at}
use Rattle.pls_app.proofs.component_rows.failing_at.Goals as goal

abbrev rejects : ℕ × Outcome → Bool
rejects row = is_rejecting row.1

abbrev waits : ℕ × Outcome → Bool
waits row = is_waiting row.1

pub overflow_add-rejecting : goal.overflow_add-rejecting
overflow_add-rejecting c =
    omega (
      arith,
      c.loop-place.invariant.0,
      count_front rejects c.args.outcomes.now c.args.places.now c.loop-place.place-index
          (get_or c.args.outcomes.now (get_or c.args.places.now c.loop-place.place-index 0)
          c.index-outcomes-place.result) c.requires.within,
      c.loop-place-test.true,
      c.one_if-rejecting.ensures ∙ ap {B = ℕ} (λ (b : Bool). cond b 1 0) c.rejects.ensures,
      c.requires.few,
    )

pub overflow_add-waiting : goal.overflow_add-waiting
overflow_add-waiting c =
    omega (
      arith,
      c.loop-place.invariant.1,
      count_front waits c.args.outcomes.now c.args.places.now c.loop-place.place-index
          (get_or c.args.outcomes.now (get_or c.args.places.now c.loop-place.place-index 0)
          c.index-outcomes-place.result) c.requires.within,
      c.loop-place-test.true,
      c.one_if-waiting.ensures ∙ ap {B = ℕ} (λ (b : Bool). cond b 1 0) c.waits.ensures,
      c.requires.few,
    )

pub loop-place-preserved : goal.loop-place-preserved
loop-place-preserved c =
    let outcomes = c.args.outcomes.now in
    let places = c.args.places.now in
    let at = c.loop-place.place-index in
    let d = c.index-outcomes-place.result in
    let row = get_or outcomes (get_or places at 0) d in
    let there = outcome_at outcomes places at d c.requires.within c.loop-place-test.true in (
      (λ i. c.loop-place.invariant.0 i
          + (c.one_if-rejecting.ensures ∙ (λ k. cond (c.rejects.ensures k) 1 0)) i)
          ∙ sym (count_more rejects outcomes places at 0 row c.loop-place-test.true there),
      (λ i. c.loop-place.invariant.1 i
          + (c.one_if-waiting.ensures ∙ (λ k. cond (c.waits.ensures k) 1 0)) i)
          ∙ sym (count_more waits outcomes places at 0 row c.loop-place-test.true there),
    )

pub returns-clause-few : goal.returns-clause-few
returns-clause-few c =
    let outcomes = c.args.outcomes.now in
    let places = c.args.places.now in
    let all : take c.loop-place.place-index places ≡ places =
    take_all c.loop-place.place-index places (omega (arith, c.loop-place-test.false)) in
    let rejecting : c.loop-place.rejecting ≡ count_by rejects (items_at outcomes places) =
    c.loop-place.invariant.0 ∙ ap (λ (places : List ℕ). count_by rejects (items_at outcomes places)) all in
    let waiting : c.loop-place.waiting ≡ count_by waits (items_at outcomes places) =
    c.loop-place.invariant.1 ∙ ap (λ (places : List ℕ). count_by waits (items_at outcomes places)) all in (
      omega (arith, rejecting, count_few rejects outcomes places c.requires.within),
      omega (arith, waiting, count_few waits outcomes places c.requires.within),
    )
