use Rattle.std.proofs.Common.{◌≡◌}
use Rattle.std.specs.List.{list_any, zip}
use Rattle.pls_pathmax.specs.Rules.{meet_lightly}
use Rattle.pls_pathmax.proofs.Compared.{meet_from}
use Rattle.pls_pathmax.proofs.outside.meet_on_some.Given as goal

-- what is asked is asked of the levels behind those that were compared
abbrev pub invariant-loop-i : goal.invariant-loop-i
invariant-loop-i l = list_any (λ both. meet_lightly l.weight both.0 both.1) (zip l.mine l.theirs)
    ≡ meet_from l.weight l.mine l.theirs l.i
