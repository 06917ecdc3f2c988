use Rattle.std.proofs.Common.{◌∙◌, sym}
use Rattle.pls_universal.proofs.Agreeing.{agreement-next, agreement-stopped}
use Rattle.pls_universal.proofs.verifying.agreement.Goals as goal

pub returns-in_default : goal.returns-in_default
returns-in_default g c rows read =
    sym (c.loop-port.invariant rows read
    ∙ agreement-stopped g.C.NumCode.takes rows c.args.ports.now c.loop-port.port-index
    c.port-item.result c.loop-port.agrees c.loop-port-test.true c.port-item.is
    (sym c.in_default.is ∙ c.in_ok-same.ensures rows read))

pub loop-port-preserved : goal.loop-port-preserved
loop-port-preserved g c rows read =
    c.loop-port.invariant rows read
    ∙ agreement-next g.C.NumCode.takes rows c.args.ports.now c.loop-port.port-index
    c.port-item.result c.loop-port.agrees c.in-Some.same c.loop-port-test.true c.port-item.is
    (sym c.in-Some.is ∙ c.in_ok-same.ensures rows read)
