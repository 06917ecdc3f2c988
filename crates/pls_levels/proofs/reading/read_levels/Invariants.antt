use Rattle.std.proofs.Common.{◌≡◌, ◌-◌, ◌≤◌, ◌++◌}
use Rattle.pls_levels.specs.Labels.{levels_off}
use Rattle.pls_levels.proofs.reading.read_levels.Given as goal

-- the levels so far and those that are left are all
abbrev pub invariant-loop : goal.invariant-loop
invariant-loop g l = record {
  within : l.counter ≤ l.count;
  all : levels_off g.K.LevelKind.form l.count l.initial.numbers.numbers
      ≡ l.found.items
      ++ levels_off g.K.LevelKind.form (l.count - l.counter) l.numbers.numbers;
}
