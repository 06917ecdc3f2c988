use Rattle.std.proofs.Common.{◌≡◌, length}
use Rattle.pls_boruvka.specs.inner.Tops.{Each, IsParentPlace}
use Rattle.pls_boruvka.proofs.tops.parents_of.Given as goal

abbrev pub invariant-loop-place : goal.invariant-loop-place
invariant-loop-place l =
    (length l.parents.items ≡ l.place) × Each (IsParentPlace l.net) l.parents.items
