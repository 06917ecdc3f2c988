use Rattle.std.proofs.Common.{◌≡◌, ◌∙◌, ℕ, inl, inr, Bool, true, false, sym, subst, Contains, arith}
use Rattle.std.proofs.lemmas.Bool.{cases_lt}
use Rattle.std.proofs.lemmas.List.Elements.{All-contains}
use Rattle.std.proofs.lemmas.List.Sums.{AllPass-from_list_all}
use Rattle.pls_graph.specs.Places.{beside}
use Rattle.pls_diameter_bridges.proofs.Crossed.{fails_somewhere}
use Rattle.pls_diameter_bridges.specs.inner.Crossing.{is_allowed}
use Rattle.pls_diameter_bridges.proofs.crossing.is_only_crossing.Goals as goal

pub returns-then-not-all_allowed-clause-another : goal.returns-then-not-all_allowed-clause-another
returns-then-not-all_allowed-clause-another c =
    let from = c.loop-from.from in
    let no : c.all_allowed.result ≡ false = cc in
    let fails = fails_somewhere
    (is_allowed c.args.near.now c.args.far.now c.args.place c.args.other from)
    (beside c.args.net.now from) (sym c.all_allowed.ensures ∙ no) in (
      from,
      fails.0,
      let inside = c.loop-from-test.true in omega (arith, inside, c.len-from-end.ensures.len),
      fails.1,
      fails.2,
    )

pub loop-from-preserved : goal.loop-from-preserved
loop-from-preserved c from to within in' = elim (cases_lt from c.loop-from.from) [
  | inl earlier ↦ c.loop-from.invariant from to earlier in'
  | inr late ↦
      let same : c.loop-from.from ≡ from = omega (arith, late, within) in
      let near = c.args.near.now in
      let far = c.args.far.now in
      let here : ℕ → Bool = is_allowed near far c.args.place c.args.other c.loop-from.from in
      let yes : c.all_allowed.result ≡ true = cc in
      let all = AllPass-from_list_all here (beside c.args.net.now c.loop-from.from)
      (sym c.all_allowed.ensures ∙ yes) in
      let in_here : Contains (beside c.args.net.now c.loop-from.from) to =
      subst (λ (from : ℕ). Contains (beside c.args.net.now from) to) (sym same) in' in
      subst (λ (from : ℕ). is_allowed near far c.args.place c.args.other from to ≡ true) same
      (All-contains (λ to. here to ≡ true) (beside c.args.net.now c.loop-from.from) to all in_here)
]

pub returns-clause-only : goal.returns-clause-only
returns-clause-only c from to within in' =
    c.loop-from.invariant from to
    (let past = c.loop-from-test.false in
    omega (arith, past, within, c.len-from-end.ensures.len)) in'
