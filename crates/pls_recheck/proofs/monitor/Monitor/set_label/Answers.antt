use Rattle.std.proofs.Common.{◌∙◌, ℕ, List, ap, map, set, sym}
use Rattle.std.proofs.lemmas.List.{map-set}
use Rattle.pls_recheck.specs.Snapshot.{Snapshot}
use Rattle.pls_recheck.proofs.monitor.Monitor.set_label.Goals as goal

pub invariant_of-self-2 : goal.invariant_of-self-2
invariant_of-self-2 g c =
    let told = g.K.Remembers.told c.self.inside.checker in
    let labels = c.self.inside.core.labels in
    let i = c.in_ok-i.i in (
      c.in_ok-i.ensures.current (g.K.Checker.judge c.self.inside.checker) c.self.invariant.0,
      ap (λ (memories : List _). set memories i c.in-Ok.memory) c.self.invariant.1
          ∙ ap (λ (memory : _). set (map told labels) i memory)
          (c.in-Ok.ensures ∙ ap told c.bits.ensures)
          ∙ sym (map-set told labels i c.args.bits.now)
          ∙ ap (λ (i : ℕ). map told (set labels i c.args.bits.now)) c.in_ok-i.ensures.place
          ∙ ap (λ (now : Snapshot). map told now.labels) (sym c.in_ok-i.ensures.ok),
    )
