use Rattle.std.proofs.Common.{◌≡◌, []}
use Rattle.pls_components.specs.inner.Numbers.{AreNumbered}
use Rattle.pls_components.proofs.flood.number_all.Given as goal

abbrev pub invariant-loop-root : goal.invariant-loop-root
invariant-loop-root l = record {
  numbered : AreNumbered l.net l.flood.numbers.items l.root l.count;
  none : l.flood.waiting.items ≡ [];
}
