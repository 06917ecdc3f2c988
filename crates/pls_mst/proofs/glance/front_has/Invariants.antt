use Rattle.std.proofs.Common.{◌≡◌, ◌≤◌, ◌==◌, take, true}
use Rattle.std.specs.List.{list_all}
use Rattle.pls_mst.proofs.glance.front_has.Given as goal

-- the levels so far have the fragment
abbrev pub invariant-loop-place : goal.invariant-loop-place
invariant-loop-place l = record {
  within : l.place ≤ l.count;
  have : list_all (λ level. level.fragment == l.fragment) (take l.place l.front) ≡ true;
}
