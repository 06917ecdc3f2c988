use Rattle.std.proofs.Common.{◌≡◌, ◌-◌, ◌≤◌}
use Rattle.pls_numbers.specs.Taking.{items_off}
use Rattle.pls_mst.specs.Labels.{level_off}
use Rattle.pls_mst.specs.inner.Comparing.{both_compared, compared}
use Rattle.pls_mst.proofs.comparing.compare_behind.Given as goal

-- what the levels so far say, and those that are left, is what all say
abbrev pub invariant-loop : goal.invariant-loop
invariant-loop g l = record {
  within : l.counter ≤ l.count;
  all : both_compared l.fn.before (compared l.between l.own
      (items_off level_off l.count l.initial.mine.numbers)
      (items_off level_off l.count l.initial.theirs.numbers))
      ≡ both_compared l.found (compared l.between l.own
      (items_off level_off (l.count - l.counter) l.mine.numbers)
      (items_off level_off (l.count - l.counter) l.theirs.numbers));
}
