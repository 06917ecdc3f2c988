use Rattle.std.proofs.Common.{◌≡◌, ℕ, slice_get, Some}
use Rattle.pls_watch.specs.declared.change.Change.TheVariants.{Label}
use Rattle.pls_watch.specs.inner.Current.{IsMoreNoted}
use Rattle.pls_watch.proofs.Noted.{AreFirstNoted}
use Rattle.pls_watch.proofs.change.note_beside.Given as goal

abbrev pub invariant-loop-port : goal.invariant-loop-port
invariant-loop-port l = record {
  more : IsMoreNoted l.fn.changes.items l.changes.items;
  labels : (i : ℕ) → slice_get l.changes.items i ≡ Some Label
      → slice_get l.fn.changes.items i ≡ Some Label;
  all : AreFirstNoted l.watch l.changes.items l.i l.port;
}
