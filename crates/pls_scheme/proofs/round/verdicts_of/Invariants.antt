use Rattle.std.proofs.Common.{◌≡◌, map, take}
use Rattle.pls_streams.specs.Steps.{up_by}
use Rattle.pls_labels.specs.Seen.{views}
use Rattle.pls_scheme.specs.Reading.{judge_by}
use Rattle.pls_numbers.specs.Shape.{said_by}
use Rattle.pls_scheme.proofs.round.verdicts_of.Given as goal

abbrev pub invariant-loop-i : goal.invariant-loop-i
invariant-loop-i g l = record {
  verdicts : l.verdicts.items ≡ map (judge_by (said_by (g.R.Format.Format.shape (g.R.Judgement.format l.rules)) g.R.Code.NumCode.takes)
      (g.R.Judgement.rules l.rules)) (take l.i (views l.net (g.L.Labels.listed l.labels)));
  steps : l.steps ≡ up_by l.i l.fn.steps;
}
