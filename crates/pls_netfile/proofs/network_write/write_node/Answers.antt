use Rattle.std.proofs.Common.{◌∙◌, refl, append_assoc}
use Rattle.std.proofs.lemmas.Result.{on_ok_weaker}
use Rattle.pls_netfile.proofs.network_write.write_node.Goals as goal

pub returns-clause-text : goal.returns-clause-text
returns-clause-text c =
    on_ok_weaker c.write_number-3.result (λ last. last ∙ simp (
      c.in_ok-write_number-2.ensures,
      c.in_ok-write_pointer.ensures.text,
      c.in_ok-write_number.ensures,
      c.in_ok-extend_from_slice.ensures.items,
      c.from.ensures,
      c.from-2.ensures,
      append_assoc,
    ) refl) c.write_number-3.ensures
