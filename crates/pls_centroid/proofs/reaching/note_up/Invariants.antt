use Rattle.pls_centroid.specs.inner.Reaching.{IsNotedUp}
use Rattle.pls_centroid.proofs.reaching.note_up.Given as goal

-- as many steps up as places were passed
abbrev pub invariant-loop-back : goal.invariant-loop-back
invariant-loop-back l = IsNotedUp l.left l.order l.weights l.back l.initial.ways l.ways
