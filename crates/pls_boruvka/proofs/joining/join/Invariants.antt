use Rattle.pls_boruvka.specs.inner.Chosen.{JoinChildren}
use Rattle.pls_boruvka.proofs.joining.join.Given as goal

abbrev pub invariant-loop-chosen : goal.invariant-loop-chosen
invariant-loop-chosen l = JoinChildren l.all l.chosen-index l.initial.joined l.joined
