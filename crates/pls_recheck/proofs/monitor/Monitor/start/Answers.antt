use Rattle.std.proofs.Common.{◌∙◌, Bool, List, ap, map, sym}
use Rattle.pls_recheck.proofs.monitor.Monitor.start.Goals as goal

pub invariant_of-result : goal.invariant_of-result
invariant_of-result g c = (
  c.in_ok-core.ensures.current (g.K.Checker.judge c.args.checker),
  c.in_ok-memories.ensures
      ∙ ap (λ (labels : List (List Bool)). map (g.K.Remembers.told c.args.checker) labels)
      (sym c.in_ok-core.ensures.labels),
)
