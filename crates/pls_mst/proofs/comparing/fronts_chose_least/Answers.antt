use Rattle.std.proofs.Common.{◌∙◌, true, false, sym, arith}
use Rattle.pls_mst.specs.Rules.{chose_least}
use Rattle.pls_mst.specs.inner.Comparing.{edge_between, outside_of}
use Rattle.pls_mst.proofs.Fronts.{on_each-next}
use Rattle.pls_mst.proofs.comparing.fronts_chose_least.Goals as goal

pub returns-then-not-chose_least : goal.returns-then-not-chose_least
returns-then-not-chose_least c =
    let between = c.args.between.now in
    sym (c.loop-place.invariant.left
    ∙ on_each-next (chose_least (edge_between between) (outside_of between)) c.loop-place.place
    c.args.count c.args.mine.now c.args.theirs.now c.whole.result c.whole-in-loop-place.result
    false c.loop-place-test.true (omega (arith, c.told-mine, c.requires))
    (omega (arith, c.told-theirs, c.requires)) c.whole.ensures c.whole-in-loop-place.ensures
    (sym c.if-not-chose_least.true ∙ c.chose_least.ensures))

pub loop-place-preserved : goal.loop-place-preserved
loop-place-preserved c =
    let between = c.args.between.now in
    record {
      within = omega (arith, c.loop-place-test.true);
      left = c.loop-place.invariant.left
          ∙ on_each-next (chose_least (edge_between between) (outside_of between))
          c.loop-place.place c.args.count c.args.mine.now c.args.theirs.now c.whole.result
          c.whole-in-loop-place.result true c.loop-place-test.true
          (omega (arith, c.told-mine, c.requires)) (omega (arith, c.told-theirs, c.requires))
          c.whole.ensures c.whole-in-loop-place.ensures
          (sym c.if-not-chose_least.false ∙ c.chose_least.ensures);
    }
