use Rattle.std.proofs.Common.{◌≡◌, map, take}
use Rattle.pls_streams.specs.Steps.{up_by}
use Rattle.pls_bits.specs.Gamma.{gamma_takes}
use Rattle.pls_labels.specs.Seen.{views}
use Rattle.pls_rules.specs.HeldTrees.{set_of}
use Rattle.pls_compile.specs.RuleMeaning.{meaning}
use Rattle.pls_compile.proofs.rule_checker.RuleCheckerChecker.round.Given as goal

abbrev pub invariant-loop-i : goal.invariant-loop-i
invariant-loop-i g l = record {
  verdicts : l.verdicts.items ≡ map (meaning gamma_takes (set_of l.self))
      (take l.i (views l.net (g.L.Labels.listed l.labels)));
  steps : l.steps ≡ up_by l.i l.fn.steps;
}
