use Rattle.std.proofs.Common.{◌≡◌, length}
use Rattle.pls_boruvka.specs.inner.Tops.{AreNotedTops, Each, IsTop}
use Rattle.pls_boruvka.proofs.tops.tops_with.Given as goal

abbrev pub invariant-loop-place : goal.invariant-loop-place
invariant-loop-place l =
    (length l.tops.items ≡ l.place) × Each (IsTop l.parents l.joined) l.tops.items
    × AreNotedTops l.parents l.joined l.noted
