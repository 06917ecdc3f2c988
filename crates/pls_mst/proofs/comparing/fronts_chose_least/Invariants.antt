use Rattle.std.proofs.Common.{◌≡◌, ◌≤◌}
use Rattle.pls_mst.specs.Rules.{chose_least, on_each_level}
use Rattle.pls_mst.specs.inner.Comparing.{edge_between, outside_of}
use Rattle.pls_mst.proofs.Fronts.{kept_from}
use Rattle.pls_mst.proofs.comparing.fronts_chose_least.Given as goal

-- what is asked of all levels is asked of those that are left
abbrev pub invariant-loop-place : goal.invariant-loop-place
invariant-loop-place l = record {
  within : l.place ≤ l.count;
  left : on_each_level (chose_least (edge_between l.between) (outside_of l.between))
      (kept_from 0 l.count l.mine) (kept_from 0 l.count l.theirs)
      ≡ on_each_level (chose_least (edge_between l.between) (outside_of l.between))
      (kept_from l.place l.count l.mine) (kept_from l.place l.count l.theirs);
}
