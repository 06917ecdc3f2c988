use Rattle.std.proofs.Common.{◌≡◌, ◌∙◌, [], ◌∷◌, ◌++◌, ap, max, slice_get, sym, arith}
use Rattle.std.proofs.lemmas.Option.{same_Some}
use Rattle.pls_configuration.specs.declared.row.NodeRow.{NodeRow}
use Rattle.pls_graph.specs.Size.{size_of}
use Rattle.pls_graph.proofs.Agreed.{row_by_parts}
use Rattle.pls_labels.proofs.Few.{proper_at}
use Rattle.pls_components.proofs.PartSize.{size_by_parts}
use Rattle.pls_components.proofs.part_size.with_row.Goals as goal

pub overflow_add-result-2 : goal.overflow_add-result-2
overflow_add-result-2 c =
    let proper = proper_at c.args.net.now c.node-id.ensures.valid c.args.place c.node-id.result.1
    c.ports-ports.result.now c.node-id.ensures.state c.ports-ports.ensures in
    let few = proper.few in
    omega (arith, few, c.requires.few_ports)

pub overflow_cast-ports : goal.overflow_cast-ports
overflow_cast-ports c =
    let proper = proper_at c.args.net.now c.node-id.ensures.valid c.args.place c.node-id.result.1
    c.ports-ports.result.now c.node-id.ensures.state c.ports-ports.ensures in
    let few = proper.few in
    omega (arith, few)

pub returns : goal.returns
returns c = λ rows row is at.
    let net = c.args.net.now in
    let found : NodeRow =
    record { id = c.node-id.result.0; state = c.node-id.result.1; ports = c.ports-ports.result.now } in
    let same : found ≡ row =
    same_Some found row
    (sym (row_by_parts (slice_get net c.args.place) found.id found.state found.ports
    c.node-id.ensures.id c.node-id.ensures.state c.ports-ports.ensures) ∙ at) in
    size_by_parts rows found c.args.size is _ _ _ _ _ c.max.ensures
    (c.max-2.ensures ∙ ap (max c.args.size.max_weight) c.max_weight.ensures) c.max-3.ensures
    c.max-4.ensures c.max-5.ensures
    ∙ ap (λ (row : NodeRow). size_of (rows ++ row ∷ [])) same
