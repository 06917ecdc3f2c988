use Rattle.std.proofs.Common.{◌≡◌, length, take}
use Rattle.pls_watch.specs.Labelled.{bits_given, labels_given}
use Rattle.pls_app.specs.WatchRefusal.{events_of}
use Rattle.pls_app.proofs.watch.relabels_in.Given as goal

abbrev pub invariant-loop-line : goal.invariant-loop-line
invariant-loop-line l = record {
  many : l.count ≡ length (labels_given (events_of (take l.line-index l.lines)));
  sum : l.total ≡ bits_given (events_of (take l.line-index l.lines));
}
