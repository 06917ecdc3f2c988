use Rattle.std.proofs.Common.{◌≡◌, ◌-◌, ◌≤◌}
use Rattle.pls_levels.specs.Labels.{are_levels}
use Rattle.pls_levels.proofs.reading.are_levels.Given as goal

-- whether all are levels is whether those that are left are
abbrev pub invariant-loop : goal.invariant-loop
invariant-loop g l = record {
  within : l.counter ≤ l.count;
  all : are_levels g.K.LevelKind.form l.count l.initial.numbers
      ≡ are_levels g.K.LevelKind.form (l.count - l.counter) l.numbers;
}
