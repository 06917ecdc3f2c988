use Rattle.std.proofs.Common.{◌≡◌, map, take}
use Rattle.pls_streams.specs.Steps.{up_by}
use Rattle.pls_labels.specs.Seen.{views}
use Rattle.pls_scheme.specs.Reading.{judge_by}
use Rattle.pls_numbers.specs.Shape.{said_by}
use Rattle.pls_universal.specs.Reading.{map_shape}
use Rattle.pls_universal.specs.Rules.{map_rules}
use Rattle.pls_universal.specs.inner.Deciding.{AreDecided}
use Rattle.pls_universal.proofs.map_of.MapOfChecker.round.Given as goal

-- the verdicts so far, and the maps that were decided for them
abbrev pub invariant-loop-i : goal.invariant-loop-i
invariant-loop-i g l = record {
  verdicts : l.verdicts.items
      ≡ map (judge_by (said_by map_shape g.C.NumCode.takes)
      (map_rules (g.P.PropertyTest.test l.self.property)))
      (take l.i (views l.net (g.L.Labels.listed l.labels)));
  steps : l.steps ≡ up_by l.i l.fn.steps;
  decided : AreDecided g.C.NumCode.takes (g.P.PropertyTest.test l.self.property)
      (g.L.Labels.listed l.labels) l.decided;
}
