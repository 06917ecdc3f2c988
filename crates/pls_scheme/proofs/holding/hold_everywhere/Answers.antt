use Rattle.std.proofs.Common.{◌≡◌, ◌∙◌, ℕ, inl, inr, true, Some, slice_get, sym, ap, refl, arith}
use Rattle.std.proofs.lemmas.Bool.{cases_lt}
use Rattle.std.proofs.lemmas.Option.{slice_get_within}
use Rattle.pls_configuration.specs.declared.row.NodeRow.{NodeRow}
use Rattle.pls_configuration.specs.declared.verdict.Verdict.TheVariants.{Accept}
use Rattle.pls_graph.proofs.Members.{Contains-from_place, place_from_Contains}
use Rattle.pls_graph.proofs.Finds.{item_at}
use Rattle.pls_scheme.specs.inner.Accepting.{accepts}
use Rattle.pls_scheme.specs.Reading.{read_where}
use Rattle.pls_scheme.specs.laws.Saying.{hold-judged, judged-each}
use Rattle.pls_scheme.proofs.Accepted.{accepts-true}
use Rattle.pls_scheme.proofs.holding.hold_everywhere.Goals as goal

pub returns-then-not-accepts : goal.returns-then-not-accepts
returns-then-not-accepts g c say is =
    let rows = c.args.net.now in
    let (row, at) : (row : NodeRow) × (slice_get rows c.loop-i.i ≡ Some row) =
    item_at rows c.loop-i.i (let within = c.loop-i-test.true in
    omega (arith, within, c.len-i-end.ensures.len)) in
    let rules = g.R.Judgement.rules c.args.rules.now (read_where say row) in (
      λ no. absurd (cc),
      λ hold.
          let verdict : c.verdict_at.result ≡ Accept =
          c.verdict_at.ensures say is row at
          ∙ hold-judged 3 rules (hold row (Contains-from_place rows c.loop-i.i row at)) in
          let passes : accepts c.verdict_at.result ≡ true = ap accepts verdict in
          absurd (cc),
    )

pub loop-i-preserved : goal.loop-i-preserved
loop-i-preserved g c say is place row within at = elim (cases_lt place c.loop-i.i) [
  | inl earlier ↦ c.loop-i.invariant say is place row earlier at
  | inr late ↦
      let here : slice_get c.args.net.now c.loop-i.i ≡ Some row =
      ap (slice_get c.args.net.now) (omega (arith, late, within)) ∙ at in
      let rules = g.R.Judgement.rules c.args.rules.now (read_where say row) in
      judged-each 3 rules (sym (c.verdict_at.ensures say is row here)
      ∙ accepts-true c.verdict_at.result (cc))
]

pub returns : goal.returns
returns g c say is =
    let rows = c.args.net.now in (
      λ yes row in'.
          let (place, at) : (place : ℕ) × (slice_get rows place ≡ Some row) =
          place_from_Contains rows row in' in
          let ends = c.loop-i-test.false in
          let within = slice_get_within rows place row at in
          c.loop-i.invariant say is place row (omega (arith, within, ends, c.len-i-end.ensures.len)) at,
      λ hold. refl,
    )
