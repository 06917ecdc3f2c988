use Rattle.std.proofs.Common.{◌∙◌, ◌+◌, length, ap, arith}
use Rattle.pls_configuration.specs.declared.row.NodeRow.{NodeRow}
use Rattle.pls_facts.proofs.Lists.{map-take_more}
use Rattle.pls_graph.proofs.Finds.{item_at}
use Rattle.pls_watch.specs.Watching.{outcome_in, stale_in}
use Rattle.pls_watch.proofs.Looked.{rose_more, rose_within}
use Rattle.pls_watch.proofs.Stocked.{network_seen}
use Rattle.pls_watch.proofs.watch.Watch.outcomes.Goals as goal

pub loop-i-preserved : goal.loop-i-preserved
loop-i-preserved g c =
    let old = c.self.inside in
    let now = c.args.self.now in
    let judge = g.K.Checker.judge c.args.checker.now in
    let network = network_seen old.versions old.labels old.most_relabels old.most_bits old.net.now old.relabels
    old.relabel_bits c.self.invariant now c.self.view_is in
    let row = item_at now.network c.loop-i.i
    (omega (arith, c.loop-i-test.true, c.len-i-end.ensures.len, ap length network)) in (
      c.look_at.ensures.table,
      rose_more c.loop-i.i _ _ _ c.loop-i.invariant.1 c.look_at.ensures.few_steps,
      c.in_ok-push.ensures.items
          ∙ map-take_more (λ (row : NodeRow). (row.id, outcome_in judge now row, stale_in now row))
          now.network c.loop-i.i row.0 c.loop-i.rows.items c.in_ok-look_at.field-0
          c.loop-i.invariant.2
          row.1 (c.in_ok-look_at.ensures.shows row.0 row.1),
    )

pub returns-in_err-look_at-clause-few_steps : goal.returns-in_err-look_at-clause-few_steps
returns-in_err-look_at-clause-few_steps g c =
    let old = c.self.inside in
    let network = network_seen old.versions old.labels old.most_relabels old.most_bits old.net.now old.relabels
    old.relabel_bits c.self.invariant c.args.self.now c.self.view_is in
    rose_within (c.loop-i.i + 1) _ _ _
    (omega (arith, c.loop-i-test.true, c.len-i-end.ensures.len, ap length network))
    (rose_more c.loop-i.i _ _ _ c.loop-i.invariant.1 c.look_at.ensures.few_steps)

pub returns-in_err-push-clause-few_steps : goal.returns-in_err-push-clause-few_steps
returns-in_err-push-clause-few_steps g c =
    let old = c.self.inside in
    let network = network_seen old.versions old.labels old.most_relabels old.most_bits old.net.now old.relabels
    old.relabel_bits c.self.invariant c.args.self.now c.self.view_is in
    rose_within (c.loop-i.i + 1) _ _ _
    (omega (arith, c.loop-i-test.true, c.len-i-end.ensures.len, ap length network))
    (rose_more c.loop-i.i _ _ _ c.loop-i.invariant.1 c.look_at.ensures.few_steps)
