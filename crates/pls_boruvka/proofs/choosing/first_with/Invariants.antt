use Rattle.pls_boruvka.specs.inner.Choices.{IsFirstOf, LeavesTop, top_at}
use Rattle.pls_boruvka.proofs.Firsts.{OrAt}
use Rattle.pls_boruvka.proofs.choosing.first_with.Given as goal

abbrev pub invariant-loop-p : goal.invariant-loop-p
invariant-loop-p l = IsFirstOf (OrAt l.net l.tops l.place
    (LeavesTop l.net l.tops l.place (top_at l.tops l.place)) l.p) l.first
