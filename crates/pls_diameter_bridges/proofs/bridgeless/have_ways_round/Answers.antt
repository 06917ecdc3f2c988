use Rattle.std.proofs.Common.{◌≡◌, ◌∙◌, ℕ, ◌<◌, inl, inr, List, length, get_or, sym, subst, refl, arith, Contains}
use Rattle.std.proofs.lemmas.Bool.{cases_lt}
use Rattle.std.proofs.lemmas.List.Elements.{Contains-get_or}
use Rattle.std.proofs.lemmas.Option.{same_Some, slice_get-get_or}
use Rattle.pls_graph.specs.Places.{beside}
use Rattle.pls_diameter_bridges.specs.inner.Crossing.{HasWayRound}
use Rattle.pls_diameter_bridges.proofs.bridgeless.have_ways_round.Goals as goal

pub returns-then-not-branch : goal.returns-then-not-branch
returns-then-not-branch c = (
  λ no. absurd (cc),
  λ all.
      let places = c.places-other-items.result.now in
      let other = get_or places c.loop-other.other-index 0 in
      let in' : Contains (beside c.args.net.now c.args.place) other =
      subst (λ (places : List ℕ). Contains places other) c.places-other-items.ensures.places
      (Contains-get_or places c.loop-other.other-index 0 c.loop-other-test.true) in
      let yes = c.in_ok-later_has_way_round.ensures.1 (all other in') in
      absurd (cc),
)

pub loop-other-preserved : goal.loop-other-preserved
loop-other-preserved c k d within = elim (cases_lt k c.loop-other.other-index) [
  | inl earlier ↦ c.loop-other.invariant k d earlier
  | inr late ↦
      let rows = c.args.net.now in
      let place = c.args.place in
      let places = c.places-other-items.result.now in
      let index = c.loop-other.other-index in
      let inside : index < length places = c.loop-other-test.true in
      let same : index ≡ k = omega (arith, late, within) in
      let one : get_or places index 0 ≡ get_or places index d =
      same_Some (get_or places index 0) (get_or places index d)
      (sym (slice_get-get_or places index 0 inside) ∙ slice_get-get_or places index d inside) in
      subst (λ (k : ℕ). place < get_or places k d → HasWayRound rows place (get_or places k d)) same
      (subst (λ (other : ℕ). place < other → HasWayRound rows place other) one
      (c.in_ok-later_has_way_round.ensures.0 (cc)))
]

pub returns : goal.returns
returns c = (
  λ yes other in'.
      let places = c.places-other-items.result.now in
      let (k, within, is) : Contains places other =
      subst (λ (places : List ℕ). Contains places other)
      (sym c.places-other-items.ensures.places) in' in
      let past = c.loop-other-test.false in
      subst (λ (other : ℕ). c.args.place < other → HasWayRound c.args.net.now c.args.place other) is
      (c.loop-other.invariant k other (omega (arith, within, past))),
  λ all. refl,
)
