use Rattle.std.proofs.Common.{◌≡◌, map, take}
use Rattle.pls_labels.specs.Seen.{views}
use Rattle.pls_scheme.specs.Basic.{verdict_by}
use Rattle.pls_pathmax.specs.Labels.{pathmax_shape}
use Rattle.pls_pathmax.specs.Rules.{pathmax_rules}
use Rattle.pls_pathmax.proofs.scheme.PathMaxChecker.round.Given as goal

-- the verdicts of the first nodes
abbrev pub invariant-loop-i : goal.invariant-loop-i
invariant-loop-i g l = l.verdicts.items
    ≡ map (verdict_by pathmax_shape pathmax_rules g.C.NumCode.takes)
    (take l.i (views l.net (g.L.Labels.listed l.labels)))
