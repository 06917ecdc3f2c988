use Rattle.std.proofs.Common.{◌∙◌, ◌<◌, ℕ, length, arith}
use Rattle.std.proofs.lemmas.List.{length-map}
use Rattle.pls_levels.proofs.KeptFronts.{blank, in_full-at}
use Rattle.pls_mst.specs.inner.Glance.{all_whole}
use Rattle.pls_mst.specs.inner.KeptLevel.{kept_form, whole}
use Rattle.pls_mst.proofs.Comparisons.{compared-last}
use Rattle.pls_mst.proofs.comparing.compare_fronts.Goals as goal

pub loop-place-preserved : goal.loop-place-preserved
loop-place-preserved c =
    let place : ℕ = c.loop-place.place in
    let mine = c.args.mine.now in
    let theirs = c.args.theirs.now in
    let mine_has : place < length mine =
    omega (arith, c.told-mine, c.requires, c.loop-place-test.true) in
    let theirs_has : place < length theirs =
    omega (arith, c.told-theirs, c.requires, c.loop-place-test.true) in
    record {
      within = omega (arith, c.loop-place-test.true);
      so_far = compared-last c.args.between.now c.args.own place (all_whole mine)
          (all_whole theirs) (blank kept_form) c.whole-here.result c.whole-there.result
          c.loop-place.found c.with_level-found.result
          (omega (arith, mine_has, length-map mine whole))
          (omega (arith, theirs_has, length-map theirs whole))
          (c.whole-here.ensures ∙ in_full-at kept_form mine place mine_has)
          (c.whole-there.ensures ∙ in_full-at kept_form theirs place theirs_has)
          c.loop-place.invariant.so_far c.with_level-found.ensures.shares
          c.with_level-found.ensures.least c.with_level-found.ensures.chosen;
    }
