use Rattle.std.proofs.Common.{◌∙◌, not, ap, arith}
use Rattle.pls_levels.proofs.LevelsLeft.{all_passed, fewer_left, passed_more}
use Rattle.pls_levels.proofs.reading.pass_levels.Goals as goal

pub returns-then-is_none-clause-missing : goal.returns-then-is_none-clause-missing
returns-then-is_none-clause-missing g c stops =
    fewer_left g.K.LevelKind.form c.loop.counter c.args.count c.args.numbers.now c.loop.numbers
    c.read_level.result c.read_level.ensures.none (c.is_none.ensures ∙ ap not c.if-is_none.true)
    c.loop.invariant.left (omega (arith, c.loop-test.true))

pub loop-preserved : goal.loop-preserved
loop-preserved g c = record {
  within = omega (arith, c.loop-test.true);
  left = passed_more g.K.LevelKind.form g.met.K.LevelKind.form_law c.loop.counter
      c.args.numbers.now c.loop.numbers c.read_level.new.numbers c.read_level.result
      c.read_level.ensures.found (c.is_none.ensures ∙ ap not c.if-is_none.false)
      c.loop.invariant.left;
}

pub returns-clause-passed : goal.returns-clause-passed
returns-clause-passed g c passed =
    all_passed g.K.LevelKind.form c.loop.counter c.args.count c.args.numbers.now c.loop.numbers
    (omega (arith, c.loop.invariant.within, c.loop-test.false)) c.loop.invariant.left
