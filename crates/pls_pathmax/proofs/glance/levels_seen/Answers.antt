use Rattle.std.proofs.Common.{◌≡◌, ◌∙◌, ◌+◌, ◌-◌, ℕ, suc, List, ◌∷◌, ap, subst, drop, arith}
use Rattle.std.proofs.lemmas.List.{drop-drop}
use Rattle.pls_numbers.specs.laws.TakingLaws.{are_items-end, are_items-next, are_items-none}
use Rattle.pls_centroid.specs.declared.level.CentroidLevel.{CentroidLevel}
use Rattle.pls_levels.specs.Labels.{are_levels}
use Rattle.pls_levels.proofs.LevelsLeft.{next_left}
use Rattle.pls_pathmax.specs.Labels.{centroid_level_off, pathmax_levels}
use Rattle.pls_pathmax.specs.inner.Reading.{AreLeft}
use Rattle.pls_pathmax.specs.laws.LabelLaws.{exact_levels}
use Rattle.pls_pathmax.proofs.LevelsLeft.{drop_at, drop_split}
use Rattle.pls_pathmax.proofs.KeptSoFar.{all_so_far, one_more}
use Rattle.pls_pathmax.proofs.Glances.{all_read, last_more, last_of_all}
use Rattle.pls_pathmax.proofs.glance.levels_seen.Goals as goal

pub loop-number-preserved : goal.loop-number-preserved
loop-number-preserved g c =
    let number : ℕ = c.loop-number.number in
    let level : CentroidLevel = c.in_ok-level.level in
    let one : c.args.count - number ≡ suc (c.args.count - (number + 1)) =
    omega (arith, c.loop-number-test.true) in
    let next : (levels : List CentroidLevel) → AreLeft c.args.numbers.now levels
    → (drop number levels ≡ level ∷ drop 1 (drop number levels))
    × AreLeft c.read_level.new.numbers (drop 1 (drop number levels)) =
    λ levels are. next_left pathmax_levels exact_levels c.loop-number.numbers
    c.read_level.new.numbers level (drop number levels) c.in_ok-level.ensures.found
    (c.loop-number.invariant.left levels are) in
    record {
      all = c.loop-number.invariant.all
          ∙ ap (λ (count : ℕ). are_levels pathmax_levels count c.loop-number.numbers) one
          ∙ are_items-next centroid_level_off (c.args.count - (number + 1)) level
          c.loop-number.numbers c.read_level.new.numbers c.in_ok-level.ensures.found;
      left = λ levels are. subst (AreLeft c.read_level.new.numbers) (drop-drop 1 number levels)
          (next levels are).1;
      front = λ levels are. one_more g.row.N levels number level
          (drop_split levels number level (next levels are).0) c.loop-number.kept
          c.loop-number.front (c.loop-number.invariant.front levels are) c.keep_level-kept.result
          c.keep_level-kept.new.front c.keep_level-kept.ensures.kept
          c.keep_level-kept.ensures.front;
      last = λ levels are. last_more levels number level
          (drop_at levels number level (next levels are).0);
    }

pub returns-then-is_end-clause-there : goal.returns-then-is_end-clause-there
returns-then-is_end-clause-there g c =
    all_read c.args.count c.loop-number.number c.args.numbers.now c.loop-number.numbers
    c.is_end.result (omega (arith, c.loop-number-test.false)) c.loop-number.invariant.all
    (c.is_end.ensures ∙ are_items-end centroid_level_off c.loop-number.numbers) ∙ c.if-is_end.true

pub returns-then-is_end-clause-front : goal.returns-then-is_end-clause-front
returns-then-is_end-clause-front g c levels are many =
    all_so_far g.row.N levels c.loop-number.number c.loop-number.kept c.loop-number.front
    (omega (arith, many, c.loop-number-test.false, c.loop-number.auto.number-end))
    (c.loop-number.invariant.front levels are)

pub returns-then-is_end-clause-last : goal.returns-then-is_end-clause-last
returns-then-is_end-clause-last g c levels are many =
    c.loop-number.invariant.last levels are
    ∙ last_of_all levels c.loop-number.number
    (omega (arith, many, c.loop-number-test.false, c.loop-number.auto.number-end))

pub returns-else-is_end-clause-none : goal.returns-else-is_end-clause-none
returns-else-is_end-clause-none g c =
    all_read c.args.count c.loop-number.number c.args.numbers.now c.loop-number.numbers
    c.is_end.result (omega (arith, c.loop-number-test.false)) c.loop-number.invariant.all
    (c.is_end.ensures ∙ are_items-end centroid_level_off c.loop-number.numbers) ∙ c.if-is_end.false

pub returns-in_err-level-clause-none : goal.returns-in_err-level-clause-none
returns-in_err-level-clause-none g c =
    let number : ℕ = c.loop-number.number in
    let one : c.args.count - number ≡ suc (c.args.count - (number + 1)) =
    omega (arith, c.loop-number-test.true) in
    rw c.from_residual.ensures (c.loop-number.invariant.all
    ∙ ap (λ (count : ℕ). are_levels pathmax_levels count c.loop-number.numbers) one
    ∙ are_items-none centroid_level_off (c.args.count - (number + 1)) c.loop-number.numbers
    c.in_err-level.ensures.none)
