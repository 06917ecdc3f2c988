use Rattle.std.proofs.Common.{◌≡◌, ◌<◌, ◌≤◌, ◌||◌, ℕ, false, List, drop, get_or, slice_get}
use Rattle.pls_centroid.specs.declared.level.CentroidLevel.{CentroidLevel}
use Rattle.pls_pathmax.specs.inner.OnePass.{leads_from}
use Rattle.pls_pathmax.specs.inner.Reading.{AreLeft}
use Rattle.pls_pathmax.proofs.comparing.note_ways_on.Given as goal

-- the levels behind those that were compared are left, and the flags of these are noted
abbrev pub invariant-loop-number : goal.invariant-loop-number
invariant-loop-number g l = record {
  mine : (here : List CentroidLevel) → AreLeft l.initial.mine here
      → AreLeft l.mine (drop l.number here);
  theirs : (there : List CentroidLevel) → AreLeft l.initial.theirs there
      → AreLeft l.theirs (drop l.number there);
  done : (here there : List CentroidLevel) → AreLeft l.initial.mine here
      → AreLeft l.initial.theirs there → (k : ℕ) → k < l.number → get_or l.flags k false
      ≡ (get_or l.initial.flags k false
      || leads_from l.weight (slice_get here k) (slice_get there k));
  rest : (k : ℕ) → l.number ≤ k → get_or l.flags k false ≡ get_or l.initial.flags k false;
}
