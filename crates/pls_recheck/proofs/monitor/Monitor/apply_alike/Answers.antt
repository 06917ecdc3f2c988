use Rattle.std.proofs.Common.{◌∙◌, Bool, List, ap, map, sym}
use Rattle.pls_recheck.specs.Snapshot.{Snapshot}
use Rattle.pls_recheck.proofs.monitor.Monitor.apply_alike.Goals as goal

pub invariant_of-self-2 : goal.invariant_of-self-2
invariant_of-self-2 g c =
    let told = g.K.Remembers.told c.self.inside.checker in
    let now = c.in_ok-apply.ensures in (
      now.current (g.K.Checker.judge c.self.inside.checker) c.self.invariant.0,
      c.self.invariant.1
          ∙ ap (λ (labels : List (List Bool)). map told labels)
          (sym (c.requires.alike c.self.inside.core.network c.self.inside.core.labels))
          ∙ ap (λ (now : Snapshot). map told now.labels) (sym now.ok),
    )
