use Rattle.std.proofs.Common.{◌≡◌, ◌∙◌, sym}
use Rattle.pls_universal.specs.Rules.{matched}
use Rattle.pls_universal.specs.inner.Verifying.{is_port_seen}
use Rattle.pls_universal.proofs.Judged.{node-none, node-other, node-same}
use Rattle.pls_universal.proofs.verifying.has_node.Goals as goal

pub returns-in_default : goal.returns-in_default
returns-in_default g c =
    node-none g.C.NumCode.takes c.args.net.now c.args.view.now
    (rw (← c.view.view_is) c.in_default.ensures.place)

pub returns-then-same_state : goal.returns-then-same_state
returns-then-same_state g c =
    let takes = g.C.NumCode.takes in
    let ports : c.same_ports.result
    ≡ matched (is_port_seen takes) c.ports.result.now c.args.view.now.ports =
    rw (← c.view.view_is, ← c.deref.ensures) c.same_ports.ensures in
    ports
    ∙ node-same takes c.args.net.now c.args.view.now c.in-Some.place
    (rw (← c.view.view_is) c.in-Some.ensures.place) c.node.result.1 c.node.ensures.state
    (rw (← c.view.view_is) (sym c.if-same_state.ensures)) c.ports.result.now c.ports.ensures

pub returns-else-same_state : goal.returns-else-same_state
returns-else-same_state g c =
    let takes = g.C.NumCode.takes in
    c.if-same_state.false
    ∙ node-other takes c.args.net.now c.args.view.now c.in-Some.place
    (rw (← c.view.view_is) c.in-Some.ensures.place) c.node.result.1 c.node.ensures.state
    (rw (← c.view.view_is) (sym c.if-same_state.ensures))
