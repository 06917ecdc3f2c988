use Rattle.std.proofs.Common.{◌∙◌, ◌∷◌, ◌++◌, ◌+◌, [], ℕ, List, length, slice_get, drop, sym, ap, arith, append_assoc}
use Rattle.pls_configuration.specs.declared.row.NodeRow.{NodeRow}
use Rattle.pls_watch.specs.Turning.{Turned}
use Rattle.pls_sim.specs.Schedule.{failing_from}
use Rattle.pls_watch.specs.Versions.{is_fresh}
use Rattle.pls_sim.proofs.Unheard.{adds_unheard, all_passed, has_port, on_err, passes_heard, port_small, port_within, some_in}
use Rattle.pls_sim.proofs.Refusing.{ports_at}
use Rattle.pls_watch.proofs.versions.Versions.list_stale.Goals as goal

pub overflow_cast-port : goal.overflow_cast-port
overflow_cast-port c =
    let network = ap (λ (turned : Turned). turned.network) c.self.view_is in
    let small = port_small c.self.inside.net.now c.args.self.now.network network c.args.i
    c.loop-port.port c.ports-port-end.result.now c.ports-port-end.ensures c.loop-port-test.true
    c.self.invariant.1.is_network in
    omega (arith, small)

pub is_fresh-requires-clause-port : goal.is_fresh-requires-clause-port
is_fresh-requires-clause-port c =
    port_within c.self.inside.net.now c.args.self.now.network
    (ap (λ (turned : Turned). turned.network) c.self.view_is) c.args.i
    c.loop-port.port c.ports-port-end.result.now c.ports-port-end.ensures c.loop-port-test.true

pub loop-port-preserved-then-is_fresh : goal.loop-port-preserved-then-is_fresh
loop-port-preserved-then-is_fresh c = λ row stands.
    let heard = is_fresh c.args.self.now.network c.args.self.now.turns row.id in
    let port = has_port c.self.inside.net.now c.args.self.now.network
    (ap (λ (turned : Turned). turned.network) c.self.view_is) c.args.i
    c.loop-port.port c.ports-port-end.result.now c.ports-port-end.ensures c.loop-port-test.true
    row stands in
    passes_heard heard row.ports c.loop-port.numbers.items c.loop-port.port port.0 port.1
    (c.loop-port.invariant row stands)
    (sym (c.is_fresh.ensures row port.0 stands port.1) ∙ c.if-is_fresh.true)

pub loop-port-preserved : goal.loop-port-preserved
loop-port-preserved c = λ row stands.
    let heard = is_fresh c.args.self.now.network c.args.self.now.turns row.id in
    let p : ℕ = c.loop-port.port in
    let port = has_port c.self.inside.net.now c.args.self.now.network
    (ap (λ (turned : Turned). turned.network) c.self.view_is) c.args.i
    c.loop-port.port c.ports-port-end.result.now c.ports-port-end.ensures c.loop-port-test.true
    row stands in
    let later : List ℕ = failing_from heard (p + 1) (drop (p + 1) row.ports) in
    adds_unheard heard row.ports c.loop-port.numbers.items p port.0 port.1
    (c.loop-port.invariant row stands)
    (sym (c.is_fresh.ensures row port.0 stands port.1) ∙ c.if-is_fresh.false)
    ∙ sym (append_assoc c.loop-port.numbers.items (p ∷ []) later)
    ∙ ap (λ (numbers : List ℕ). numbers ++ later) (sym c.in_ok-push.ensures.items)

pub returns-clause-ports : goal.returns-clause-ports
returns-clause-ports c = λ row stands.
    let network = ap (λ (turned : Turned). turned.network) c.self.view_is in
    let heard = is_fresh c.args.self.now.network c.args.self.now.turns row.id in
    let ports = ports_at c.self.inside.net.now c.args.i row c.ports-port-end.result.now
    (ap (λ (rows : List NodeRow). slice_get rows c.args.i) network ∙ stands)
    c.ports-port-end.ensures in
    sym (all_passed heard row.ports c.loop-port.numbers.items c.loop-port.port
    (omega (arith, c.loop-port-test.false, ap length ports))
    (c.loop-port.invariant row stands))

pub returns-in_err-push-clause-no_memory : goal.returns-in_err-push-clause-no_memory
returns-in_err-push-clause-no_memory c =
    on_err c.from_residual.result _ (λ row stands none.
    let fresh = is_fresh c.args.self.now.network c.args.self.now.turns row.id in
    let p : ℕ = c.loop-port.port in
    let port = has_port c.self.inside.net.now c.args.self.now.network
    (ap (λ (turned : Turned). turned.network) c.self.view_is) c.args.i
    c.loop-port.port c.ports-port-end.result.now c.ports-port-end.ensures c.loop-port-test.true
    row stands in
    some_in c.loop-port.numbers.items p (failing_from fresh (p + 1) (drop (p + 1) row.ports))
    (sym (adds_unheard fresh row.ports c.loop-port.numbers.items p port.0 port.1
    (c.loop-port.invariant row stands)
    (sym (c.is_fresh.ensures row port.0 stands port.1) ∙ c.if-is_fresh.false)) ∙ none))
