use Rattle.std.proofs.Common.{◌≡◌, ◌≤◌, take}
use Rattle.pls_mst.specs.inner.Comparing.{compared}
use Rattle.pls_mst.specs.inner.Glance.{all_whole}
use Rattle.pls_mst.proofs.comparing.compare_fronts.Given as goal

-- what is found is what the levels so far say
abbrev pub invariant-loop-place : goal.invariant-loop-place
invariant-loop-place l = record {
  within : l.place ≤ l.count;
  so_far : l.found ≡ compared l.between l.own (take l.place (all_whole l.mine))
      (take l.place (all_whole l.theirs));
}
