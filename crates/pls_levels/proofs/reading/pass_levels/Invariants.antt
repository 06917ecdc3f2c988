use Rattle.std.proofs.Common.{◌≤◌}
use Rattle.pls_levels.specs.Labels.{ArePassed}
use Rattle.pls_levels.proofs.reading.pass_levels.Given as goal

-- the levels that are left are those behind the ones that were passed
abbrev pub invariant-loop : goal.invariant-loop
invariant-loop g l = record {
  within : l.counter ≤ l.count;
  left : ArePassed g.K.LevelKind.form l.counter l.initial.numbers l.numbers;
}
