use Rattle.std.proofs.Common.{◌≡◌, length, take}
use Rattle.pls_recheck.specs.inner.Flags.{SetsAt}
use Rattle.pls_recheck.proofs.labelling.set_all.Given as goal

abbrev pub invariant-loop-place : goal.invariant-loop-place
invariant-loop-place l = record {
  set : SetsAt (take l.place-index l.places) l.fn.flags.items l.flags.items;
  many : length l.flags.items ≡ length l.fn.flags.items;
}
