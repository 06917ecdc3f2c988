use Rattle.std.proofs.Common.{◌≡◌, ◌<◌, ◌≤◌, ◌||◌, ℕ, false, get_or, slice_get, take}
use Rattle.pls_pathmax.specs.inner.Glance.{all_whole}
use Rattle.pls_pathmax.specs.inner.OnePass.{leads_from}
use Rattle.pls_pathmax.proofs.comparing.note_front.Given as goal

-- the flags of the levels so far are noted
abbrev pub invariant-loop-place : goal.invariant-loop-place
invariant-loop-place g l = record {
  within : l.place ≤ l.count;
  done : (k : ℕ) → k < l.place → get_or l.flags k false ≡ (get_or l.initial.flags k false
      || leads_from l.weight (slice_get (take l.count (all_whole l.mine)) k)
      (slice_get (take l.count (all_whole l.theirs)) k));
  rest : (k : ℕ) → l.place ≤ k → get_or l.flags k false ≡ get_or l.initial.flags k false;
}
