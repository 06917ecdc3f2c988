use Rattle.std.proofs.Common.{◌≡◌, ◌∙◌, ◌+◌, ◌-◌, ◌==◌, ℕ, suc, ap, arith}
use Rattle.std.specs.List.{list_all}
use Rattle.pls_numbers.specs.Taking.{items_off}
use Rattle.pls_boruvka.specs.declared.level.Level.{Level}
use Rattle.pls_mst.specs.Labels.{level_off}
use Rattle.pls_mst.proofs.Looked.{all_have-next}
use Rattle.pls_mst.proofs.reading.all_have.Goals as goal

pub loop-preserved : goal.loop-preserved
loop-preserved g c =
    let left : ℕ = c.args.count - (c.loop.counter + 1) in
    let one : c.args.count - c.loop.counter ≡ suc left = omega (arith, c.loop-test.true) in
    let same : c.in-Some.level.fragment ≡ c.args.own = omega (arith, c.if-level-own.false) in
    record {
      within = omega (arith, c.loop-test.true);
      all = c.loop.invariant.all
          ∙ ap (λ (count : ℕ). list_all (λ (level : Level). level.fragment == c.args.own)
          (items_off level_off count c.loop.numbers.numbers)) one
          ∙ all_have-next c.args.own left c.loop.numbers c.read_level.new.numbers
          c.in-Some.level c.in-Some.ensures.found same;
    }
