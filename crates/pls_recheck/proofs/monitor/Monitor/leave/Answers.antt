use Rattle.std.proofs.Common.{◌∙◌, ℕ, List, ap, map, remove, sym}
use Rattle.pls_recheck.specs.Snapshot.{Snapshot}
use Rattle.pls_recheck.proofs.Remembered.{map_remove}
use Rattle.pls_recheck.proofs.monitor.Monitor.leave.Goals as goal

pub invariant_of-self-2 : goal.invariant_of-self-2
invariant_of-self-2 g c =
    let told = g.K.Remembers.told c.self.inside.checker in
    let labels = c.self.inside.core.labels in (
      c.in_ok-i.ensures.current (g.K.Checker.judge c.self.inside.checker) c.self.invariant.0,
      c.remove.ensures.items
          ∙ ap (λ (memories : List _). remove memories c.in_ok-i.i) c.self.invariant.1
          ∙ map_remove told labels c.in_ok-i.i
          ∙ ap (λ (i : ℕ). map told (remove labels i)) c.in_ok-i.ensures.place
          ∙ ap (λ (now : Snapshot). map told now.labels) (sym c.in_ok-i.ensures.ok),
    )
