use Rattle.std.proofs.Common.{◌∙◌, ap, sym, subst, List, arith}
use Rattle.pls_configuration.specs.declared.row.NodeRow.{NodeRow}
use Rattle.pls_graph_edits.specs.Edits.{unlinked}
use Rattle.pls_graph_edits.specs.inner.Ends.{AreEnds}
use Rattle.pls_graph_edits.proofs.EditSteps.{unlink_second, unlink_steps, unlink_within}
use Rattle.pls_graph_edits.proofs.editing.unlink.Goals as goal

pub remove_port-requires-2-clause-node : goal.remove_port-requires-2-clause-node
remove_port-requires-2-clause-node c =
    let at = c.in_ok-at.at in
    let rows = c.net.inside.table.rows in
    let ends = subst (λ (rows : List NodeRow). AreEnds rows c.args.a c.args.b at.i at.j at.p at.q)
    (sym c.net.view_is) c.in_ok-at.ensures.ends in
    unlink_within rows c.net.invariant.1 c.net.inside.table.places c.net.invariant.0 _ _ _ _ _ _ ends
    c.remove_port.new.table.rows c.remove_port.ensures.rows

pub remove_port-requires-2-clause-port : goal.remove_port-requires-2-clause-port
remove_port-requires-2-clause-port c =
    let at = c.in_ok-at.at in
    let rows = c.net.inside.table.rows in
    let ends = subst (λ (rows : List NodeRow). AreEnds rows c.args.a c.args.b at.i at.j at.p at.q)
    (sym c.net.view_is) c.in_ok-at.ensures.ends in
    unlink_second rows c.net.invariant.1 c.net.inside.table.places c.net.invariant.0 _ _ _ _ _ _ ends
    c.remove_port.new.table.rows c.remove_port.ensures.rows

pub overflow_sub-net : goal.overflow_sub-net
overflow_sub-net c =
    let at = c.in_ok-at.at in
    let rows = c.net.inside.table.rows in
    let ends = subst (λ (rows : List NodeRow). AreEnds rows c.args.a c.args.b at.i at.j at.p at.q)
    (sym c.net.view_is) c.in_ok-at.ensures.ends in
    let done = unlink_steps rows c.net.invariant.1 c.net.inside.table.places c.net.invariant.0
    _ _ _ _ _ _ ends c.remove_port.new.table.rows c.remove_port.ensures.rows
    c.remove_port-2.new.table.rows c.remove_port-2.ensures.rows c.remove_port.new.table.places
    c.remove_port-2.new.table.places c.remove_port.ensures.places c.remove_port-2.ensures.places in
    let many = done.many in let counted = c.net.invariant.2 in omega arith

pub returns-clause-ok : goal.returns-clause-ok
returns-clause-ok c =
    let at = c.in_ok-at.at in
    let rows = c.net.inside.table.rows in
    let ends = subst (λ (rows : List NodeRow). AreEnds rows c.args.a c.args.b at.i at.j at.p at.q)
    (sym c.net.view_is) c.in_ok-at.ensures.ends in
    let done = unlink_steps rows c.net.invariant.1 c.net.inside.table.places c.net.invariant.0
    _ _ _ _ _ _ ends c.remove_port.new.table.rows c.remove_port.ensures.rows
    c.remove_port-2.new.table.rows c.remove_port-2.ensures.rows c.remove_port.new.table.places
    c.remove_port-2.new.table.places c.remove_port.ensures.places c.remove_port-2.ensures.places in
    done.rows_are ∙ ap (λ (rows : List NodeRow). unlinked rows c.args.a c.args.b) c.net.view_is

pub invariant_of-net : goal.invariant_of-net
invariant_of-net c =
    let at = c.in_ok-at.at in
    let rows = c.net.inside.table.rows in
    let ends = subst (λ (rows : List NodeRow). AreEnds rows c.args.a c.args.b at.i at.j at.p at.q)
    (sym c.net.view_is) c.in_ok-at.ensures.ends in
    let done = unlink_steps rows c.net.invariant.1 c.net.inside.table.places c.net.invariant.0
    _ _ _ _ _ _ ends c.remove_port.new.table.rows c.remove_port.ensures.rows
    c.remove_port-2.new.table.rows c.remove_port-2.ensures.rows c.remove_port.new.table.places
    c.remove_port-2.new.table.places c.remove_port.ensures.places c.remove_port-2.ensures.places in (
      done.places_are,
      done.valid,
      (let many = done.many in let counted = c.net.invariant.2 in omega arith),
    )
