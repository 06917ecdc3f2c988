use Rattle.std.proofs.Common.{◌∙◌, Bool, List, length, ap, arith}
use Rattle.std.proofs.lemmas.List.{length-map}
use Rattle.pls_configuration.specs.declared.row.NodeRow.{NodeRow}
use Rattle.pls_configuration.specs.Configuration.{ids_of}
use Rattle.pls_recheck.specs.Snapshot.{Snapshot}
use Rattle.pls_recheck.specs.inner.Flags.{set_among}
use Rattle.pls_recheck.proofs.Cleared.{all_set, many_ids}
use Rattle.pls_recheck.proofs.Marked.{few_marked}
use Rattle.pls_recheck.proofs.edited_network.EditedNetwork.touched_count.Goals as goal

pub returns : goal.returns
returns c =
    let flags = c.self.inside.flags.items in
    c.count_set.ensures
    ∙ ap (λ (flags : List Bool). set_among (length flags) flags) c.as_slice.ensures.value
    ∙ all_set (ids_of c.self.inside.net) (length flags) flags
    (many_ids c.self.inside.net flags c.self.invariant.a_flag) (omega arith)
    ∙ ap (λ (now : Snapshot). length now.touched) c.self.view_is

pub overflow_cast-result : goal.overflow_cast-result
overflow_cast-result c =
    let flags = c.self.inside.flags.items in
    let is = c.count_set.ensures
    ∙ ap (λ (flags : List Bool). set_among (length flags) flags) c.as_slice.ensures.value
    ∙ all_set (ids_of c.self.inside.net) (length flags) flags
    (many_ids c.self.inside.net flags c.self.invariant.a_flag) (omega arith) in
    omega (
      arith,
      is,
      few_marked (ids_of c.self.inside.net) flags,
      length-map c.self.inside.net (λ (row : NodeRow). row.id),
      c.is_valid.ensures.limits.few_nodes,
    )
