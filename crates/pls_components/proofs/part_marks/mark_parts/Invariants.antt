use Rattle.pls_components.specs.inner.Marking.{AreMarkedBefore}
use Rattle.pls_components.proofs.part_marks.mark_parts.Given as goal

abbrev pub invariant-loop-k : goal.invariant-loop-k
invariant-loop-k g l = AreMarkedBefore (g.S.Property.holds l.scheme) (g.S.Scheme.marked l.scheme)
    (g.S.Checker.judge l.scheme) (g.S.Scheme.longest l.scheme) l.net l.parts l.k l.labels l.ids.items
