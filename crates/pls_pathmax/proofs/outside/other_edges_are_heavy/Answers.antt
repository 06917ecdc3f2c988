use Rattle.std.proofs.Common.{◌≡◌, ◌∙◌, ℕ, inl, inr, Some, slice_get, sym, ap, refl, arith}
use Rattle.std.proofs.lemmas.Bool.{cases_lt}
use Rattle.std.proofs.lemmas.Option.{slice_get_within}
use Rattle.pls_configuration.specs.declared.row.NodeRow.{NodeRow}
use Rattle.pls_graph.proofs.Members.{Contains-from_place, place_from_Contains}
use Rattle.pls_graph.proofs.Finds.{item_at}
use Rattle.pls_pathmax.proofs.outside.other_edges_are_heavy.Goals as goal

pub returns-then-not-are_heavy_at : goal.returns-then-not-are_heavy_at
returns-then-not-are_heavy_at c say is =
    let rows = c.args.net.now in
    let (row, at) : (row : NodeRow) × (slice_get rows c.loop-i.i ≡ Some row) =
    item_at rows c.loop-i.i (let within = c.loop-i-test.true in
    omega (arith, within, c.len-i-end.ensures.len)) in (
      λ wrong. absurd (cc),
      λ hold.
          let here = hold row (Contains-from_place rows c.loop-i.i row at) in
          let told = c.are_heavy_at.ensures say is row at in
          let fails = c.if-not-are_heavy_at.true in
          absurd (let wrong = sym fails ∙ told ∙ here in cc),
    )

pub loop-i-preserved : goal.loop-i-preserved
loop-i-preserved c say is place row within at = elim (cases_lt place c.loop-i.i) [
  | inl earlier ↦ c.loop-i.invariant say is place row earlier at
  | inr late ↦
      let here : slice_get c.args.net.now c.loop-i.i ≡ Some row =
      ap (slice_get c.args.net.now) (omega (arith, late, within)) ∙ at in
      sym (c.are_heavy_at.ensures say is row here) ∙ c.if-not-are_heavy_at.false
]

pub returns : goal.returns
returns c say is =
    let rows = c.args.net.now in (
      λ holds row in'.
          let (place, at) : (place : ℕ) × (slice_get rows place ≡ Some row) =
          place_from_Contains rows row in' in
          let ends = c.loop-i-test.false in
          let within = slice_get_within rows place row at in
          c.loop-i.invariant say is place row (omega (
            arith,
            within,
            ends,
            c.len-i-end.ensures.len,
          )) at,
      λ hold. refl,
    )
