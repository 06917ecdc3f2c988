use Rattle.std.proofs.Common.{◌∙◌, ◌+◌, arith}
use Rattle.pls_labels.specs.Seen.{views}
use Rattle.pls_labels.proofs.Views.{own_at}
use Rattle.pls_facts.proofs.Lists.{map-take_more}
use Rattle.pls_scheme.specs.Reading.{judge_by}
use Rattle.pls_numbers.specs.Shape.{said_by}
use Rattle.pls_universal.specs.Reading.{map_shape}
use Rattle.pls_universal.specs.Rules.{map_rules}
use Rattle.pls_universal.proofs.map_of.MapOfChecker.round.Goals as goal

pub loop-i-init : goal.loop-i-init
loop-i-init g c = record {
  verdicts = c.in_ok-verdicts.ensures.items;
  steps = omega arith;
  decided = c.new-decided.ensures g.C.NumCode.takes (g.P.PropertyTest.test c.args.self.now.property)
      (g.L.Labels.listed c.args.labels.now);
}

pub verdict_at-requires-clause-at : goal.verdict_at-requires-clause-at
verdict_at-requires-clause-at g c =
    own_at c.args.net.now c.len.ensures.valid (g.L.Labels.listed c.args.labels.now) c.requires c.loop-i.i
    c.in_ok-view.view c.in_ok-view.ensures.shows

pub returns-in_err-verdict-clause-few_steps : goal.returns-in_err-verdict-clause-few_steps
returns-in_err-verdict-clause-few_steps g c =
    let within = c.loop-i-test.true in (
      c.loop-i.i + 1,
      omega (arith, within, c.len-i-end.ensures.len),
      omega (arith, c.tick.ensures, c.loop-i.invariant.steps),
    )

pub returns-in_err-push-clause-few_steps : goal.returns-in_err-push-clause-few_steps
returns-in_err-push-clause-few_steps g c =
    let within = c.loop-i-test.true in (
      c.loop-i.i + 1,
      omega (arith, within, c.len-i-end.ensures.len),
      omega (arith, c.tick.ensures, c.loop-i.invariant.steps),
    )

pub loop-i-preserved : goal.loop-i-preserved
loop-i-preserved g c = record {
  verdicts =
      c.in_ok-push.ensures.items
      ∙ map-take_more (judge_by (said_by map_shape g.C.NumCode.takes)
      (map_rules (g.P.PropertyTest.test c.args.self.now.property)))
      (views c.args.net.now (g.L.Labels.listed c.args.labels.now)) c.loop-i.i _ c.loop-i.verdicts.items
      c.in_ok-verdict.verdict c.loop-i.invariant.verdicts c.in_ok-view.ensures.shows
      c.in_ok-verdict.ensures.verdict;
  steps = omega (arith, c.tick.ensures, c.loop-i.invariant.steps);
  decided = c.in_ok-verdict.ensures.decided;
}
