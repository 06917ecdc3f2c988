use Rattle.std.proofs.Common.{◌≡◌, ◌≤◌, ◌<◌, ◌-◌, ℕ, true, List, Some, slice_get}
use Rattle.pls_numbers.specs.Shape.{said_by}
use Rattle.pls_scheme.specs.Reading.{ReadPort, reading}
use Rattle.pls_centroid.specs.declared.level.CentroidLevel.{CentroidLevel}
use Rattle.pls_pathmax.specs.declared.gathering.TheConstants.{WINDOW}
use Rattle.pls_pathmax.specs.Labels.{PathMaxLabel, pathmax_shape}
use Rattle.pls_pathmax.specs.Rules.{has_way}
use Rattle.pls_pathmax.specs.inner.OnePass.{IsReadThrough}
use Rattle.pls_pathmax.proofs.pathmax.have_further_ways.Given as goal

-- rule 5 holds on the levels of the passes so far
abbrev pub invariant-loop-first : goal.invariant-loop-first
invariant-loop-first g l = (own : PathMaxLabel) (ports : List (ReadPort PathMaxLabel))
    → IsReadThrough (said_by pathmax_shape g.C.NumCode.takes) l.view own ports → (number : ℕ)
    (level : CentroidLevel) → slice_get own.levels number ≡ Some level → WINDOW ≤ number
    → number < l.first → has_way (reading l.view.id l.view.state own ports) number level ≡ true

abbrev pub decreases-loop-first : goal.decreases-loop-first
decreases-loop-first g l = l.count - l.first
