use Rattle.std.proofs.Common.{◌≡◌, ◌∙◌, ◌+◌, sym, ap, arith, None, Some}
use Rattle.pls_graph_edits.specs.Edits.{state_refusal}
use Rattle.pls_trial.specs.Generator.{at_port_0}
use Rattle.pls_trial.specs.inner.Building.{has_port}
use Rattle.pls_trial.proofs.Pointing.{all_pointed, has_port-pointed_to}
use Rattle.pls_trial.proofs.Refused.{pointer_allowed}
use Rattle.pls_trial.proofs.trial.point.Goals as goal

-- the node has a port
pub unreachable-requires : goal.unreachable-requires
unreachable-requires c =
    let i = c.loop-i.i in
    let more = c.loop-i-test.true in
    let allowed : state_refusal c.loop-i.net (i + 2) at_port_0 ≡ None =
    pointer_allowed c.loop-i.net (i + 2)
    (ap (λ rows. has_port rows (i + 2)) c.loop-i.invariant
    ∙ has_port-pointed_to c.args.net.now i (i + 2)
    ∙ c.requires.linked (i + 2) (omega arith) (omega arith)) in
    let no : None ≡ Some c.in-Err.field-0 = sym allowed ∙ c.in-Err.ensures.refused in
    absurd (cc)

-- all nodes but the first have their pointers
pub returns : goal.returns
returns c =
    let some = c.requires.nodes in
    let past = c.loop-i-test.false in
    c.loop-i.invariant
    ∙ all_pointed c.args.net.now c.args.nodes c.loop-i.i c.requires.ids (omega arith)
