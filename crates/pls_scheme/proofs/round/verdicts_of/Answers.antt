use Rattle.std.proofs.Common.{◌≡◌, ◌∙◌, ◌+◌, length, slice_get, Some, arith}
use Rattle.std.proofs.lemmas.List.{length-map}
use Rattle.pls_labels.specs.Seen.{Seen, label_of, seen, views}
use Rattle.pls_graph.proofs.Finds.{item_at}
use Rattle.pls_facts.proofs.Lists.{map-take_more}
use Rattle.pls_scheme.specs.Reading.{judge_by}
use Rattle.pls_numbers.specs.Shape.{said_by}
use Rattle.pls_scheme.proofs.round.verdicts_of.Goals as goal

pub loop-i-preserved : goal.loop-i-preserved
loop-i-preserved g c =
    let rows = c.args.net.now in
    let labels = g.L.Labels.listed c.args.labels.now in
    let within = c.loop-i-test.true in
    let many : length (views rows labels) ≡ length rows =
    length-map rows (seen (label_of rows labels)) in
    let (view, at) : (view : Seen) × (slice_get (views rows labels) c.loop-i.i ≡ Some view) =
    item_at (views rows labels) c.loop-i.i (omega (arith, within, many)) in
    record {
      verdicts = c.in_ok-push.ensures.items
          ∙ map-take_more (judge_by (said_by (g.R.Format.Format.shape (g.R.Judgement.format c.args.rules.now)) g.R.Code.NumCode.takes) (g.R.Judgement.rules c.args.rules.now))
          (views rows labels) c.loop-i.i view c.loop-i.verdicts.items c.verdict_at.result
          c.loop-i.invariant.verdicts at (c.verdict_at.ensures view at);
      steps = omega (arith, c.tick.ensures, c.loop-i.invariant.steps);
    }

pub returns-in_err-push-clause-few_steps : goal.returns-in_err-push-clause-few_steps
returns-in_err-push-clause-few_steps g c =
    let within = c.loop-i-test.true in (
      c.loop-i.i + 1,
      omega (arith, within),
      omega (arith, c.tick.ensures, c.loop-i.invariant.steps),
    )
