use Rattle.std.proofs.Common.{◌≡◌, ◌∙◌, ◌++◌, [], ℕ, List, Some, slice_get, sym, ap, subst}
use Rattle.pls_configuration.specs.declared.row.NodeRow.{NodeRow}
use Rattle.pls_graph.proofs.Finds.{item_at}
use Rattle.pls_numbers.specs.Numbers.{AreCoded, codes_of}
use Rattle.pls_universal.proofs.Lent.{lent_numbers}
use Rattle.pls_universal.proofs.writing.write_row.Goals as goal

pub append_record-requires : goal.append_record-requires
append_record-requires g c =
    let rows : List NodeRow = c.args.net.now in
    let (row, at) : (row : NodeRow) × (slice_get rows c.args.i ≡ Some row) =
    item_at rows c.args.i c.requires.within in
    subst (AreCoded []) (lent_numbers rows c.args.i row at c.node-id.result.0 c.node-id.result.1
    c.ports-ports.result.now c.node-id.ensures.id c.node-id.ensures.state c.ports-ports.ensures
    c.from.result c.up_stated-up.result c.from-mark.result c.from.ensures c.up_stated-up.ensures
    c.from-mark.ensures) (c.requires.coded row at)

pub returns : goal.returns
returns g c row at =
    c.in_ok-append_record.ensures
    ∙ ap (λ (numbers : List ℕ). c.args.bits.now ++ codes_of g.C.NumCode.code [] numbers)
    (sym (lent_numbers c.args.net.now c.args.i row at c.node-id.result.0 c.node-id.result.1
    c.ports-ports.result.now c.node-id.ensures.id c.node-id.ensures.state c.ports-ports.ensures
    c.from.result c.up_stated-up.result c.from-mark.result c.from.ensures c.up_stated-up.ensures
    c.from-mark.ensures))
