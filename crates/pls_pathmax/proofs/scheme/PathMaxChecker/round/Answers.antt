use Rattle.std.proofs.Common.{◌≡◌, ◌∙◌, length, slice_get, Some, arith}
use Rattle.std.proofs.lemmas.List.{length-map}
use Rattle.pls_labels.specs.Seen.{Seen, label_of, seen, views}
use Rattle.pls_graph.proofs.Finds.{item_at}
use Rattle.pls_facts.proofs.Lists.{map-take_more}
use Rattle.pls_scheme.specs.Basic.{verdict_by}
use Rattle.pls_pathmax.specs.Labels.{pathmax_shape}
use Rattle.pls_pathmax.specs.Rules.{pathmax_rules}
use Rattle.pls_pathmax.proofs.scheme.PathMaxChecker.round.Goals as goal

pub loop-i-preserved : goal.loop-i-preserved
loop-i-preserved g c =
    let rows = c.args.net.now in
    let labels = g.L.Labels.listed c.args.labels.now in
    let within = c.loop-i-test.true in
    let count = c.len-i-end.ensures.len in
    let many : length (views rows labels) ≡ length rows =
    length-map rows (seen (label_of rows labels)) in
    let (view, at) : (view : Seen) × (slice_get (views rows labels) c.loop-i.i ≡ Some view) =
    item_at (views rows labels) c.loop-i.i (omega (arith, within, count, many)) in
    c.in_ok-push.ensures.items
    ∙ map-take_more (verdict_by pathmax_shape pathmax_rules g.C.NumCode.takes) (views rows labels)
    c.loop-i.i view c.loop-i.verdicts.items c.in_ok-verdict.verdict c.loop-i.invariant at
    (c.in_ok-verdict.ensures view at)
