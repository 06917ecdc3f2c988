use Rattle.std.proofs.Common.{◌+◌, ◌-◌, ℕ, suc, arith}
use Rattle.pls_levels.proofs.LevelsLeft.{as_many, read_all, read_more}
use Rattle.pls_levels.proofs.reading.read_levels.Goals as goal

pub returns-in_default : goal.returns-in_default
returns-in_default g c =
    let left : ℕ = c.args.count - (c.loop.counter + 1) in
    read_all g.K.LevelKind.form c.args.count left c.args.numbers.now.numbers c.loop.found.items
    c.loop.numbers (as_many g.K.LevelKind.form c.args.count (c.args.count - c.loop.counter)
    (suc left) c.args.numbers.now.numbers c.loop.found.items c.loop.numbers
    (omega (arith, c.loop-test.true)) c.loop.invariant.all) c.in_default.ensures.none

pub loop-preserved : goal.loop-preserved
loop-preserved g c =
    let left : ℕ = c.args.count - (c.loop.counter + 1) in
    record {
      within = omega (arith, c.loop-test.true);
      all = read_more g.K.LevelKind.form c.args.count left c.args.numbers.now.numbers
          c.loop.found.items _ c.loop.numbers c.read_level.new.numbers
          c.in-Some.level (as_many g.K.LevelKind.form c.args.count
          (c.args.count - c.loop.counter) (suc left) c.args.numbers.now.numbers
          c.loop.found.items c.loop.numbers (omega (arith, c.loop-test.true))
          c.loop.invariant.all) c.in-Some.ensures.found c.in_ok-push.ensures.items;
    }
