use Rattle.std.proofs.Common.{◌≡◌, take}
use Rattle.std.specs.List.{list_any, zip}
use Rattle.pls_pathmax.specs.Rules.{meet_lightly}
use Rattle.pls_pathmax.specs.inner.Glance.{all_whole}
use Rattle.pls_pathmax.proofs.Compared.{meet_from}
use Rattle.pls_pathmax.proofs.comparing.meet_in_front.Given as goal

-- what is asked is asked of the kept levels behind those that were compared
abbrev pub invariant-loop-place : goal.invariant-loop-place
invariant-loop-place g l = list_any (λ both. meet_lightly l.weight both.0 both.1)
    (zip (take l.count (all_whole l.mine)) (take l.count (all_whole l.theirs)))
    ≡ meet_from l.weight (take l.count (all_whole l.mine)) (take l.count (all_whole l.theirs))
    l.place
