use Rattle.std.proofs.Common.{◌∙◌, ℕ, List, [], ap, insert, map, sym}
use Rattle.pls_recheck.specs.Snapshot.{Snapshot}
use Rattle.pls_recheck.proofs.Remembered.{map_insert}
use Rattle.pls_recheck.proofs.monitor.Monitor.join.Goals as goal

pub invariant_of-self-2 : goal.invariant_of-self-2
invariant_of-self-2 g c =
    let told = g.K.Remembers.told c.self.inside.checker in
    let labels = c.self.inside.core.labels in
    let i = c.in_ok-i.i in (
      c.in_ok-i.ensures.current (g.K.Checker.judge c.self.inside.checker) c.self.invariant.0,
      c.insert_reserved.ensures
          ∙ ap (λ (memories : List _). insert memories i c.in-Ok.memory)
          (c.reserve.ensures.items ∙ c.self.invariant.1)
          ∙ ap (λ (memory : _). insert (map told labels) i memory)
          (c.in-Ok.ensures ∙ ap told c.default.ensures)
          ∙ map_insert told labels i []
          ∙ ap (λ (i : ℕ). map told (insert labels i [])) c.in_ok-i.ensures.place
          ∙ ap (λ (now : Snapshot). map told now.labels) (sym c.in_ok-i.ensures.ok),
    )
