use Rattle.pls_centroid.specs.inner.Reaching.{IsNotedDown}
use Rattle.pls_centroid.proofs.reaching.note_down.Given as goal

-- as many steps down as places were passed
abbrev pub invariant-loop-place : goal.invariant-loop-place
invariant-loop-place l =
    IsNotedDown l.left l.order l.weights l.place-index l.initial.ways l.ways
