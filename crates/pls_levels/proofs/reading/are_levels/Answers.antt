use Rattle.std.proofs.Common.{◌≡◌, ◌∙◌, ◌+◌, ◌-◌, ℕ, suc, not, ap, arith}
use Rattle.pls_numbers.specs.laws.TakingLaws.{left_by_item}
use Rattle.pls_levels.specs.Labels.{are_levels}
use Rattle.pls_levels.proofs.reading.are_levels.Goals as goal

pub loop-preserved : goal.loop-preserved
loop-preserved g c =
    let form = g.K.LevelKind.form in
    let left : ℕ = c.args.count - (c.loop.counter + 1) in
    let one : c.args.count - c.loop.counter ≡ suc left = omega (arith, c.loop-test.true) in
    record {
      within = omega (arith, c.loop-test.true);
      all = c.loop.invariant.all
          ∙ ap (λ (count : ℕ). are_levels form count c.loop.numbers) one
          ∙ left_by_item form.off left c.loop.numbers c.read_level.new.numbers
          c.read_level.result c.read_level.ensures.found
          (c.is_none.ensures ∙ ap not c.if-is_none.false);
    }
