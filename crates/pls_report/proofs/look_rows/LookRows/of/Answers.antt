use Rattle.std.proofs.Common.{◌∙◌, [], List, ap, length, replicate, true, ℕ}
use Rattle.std.proofs.lemmas.List.{length-replicate}
use Rattle.pls_report.specs.inner.Lines.{counts_of}
use Rattle.pls_report.proofs.Renewing.{all_changed}
use Rattle.pls_report.proofs.look_rows.LookRows.of.Goals as goal

pub invariant_of-result : goal.invariant_of-result
invariant_of-result c =
    let rows = c.args.rows in (
      c.of-counts.ensures ∙ ap counts_of c.as_slice.ensures.value,
      all_changed rows.items c.in_ok-changed.changed.items c.in_ok-kept.kept.lines
          (c.in_ok-changed.ensures.items_if_clones_equal (λ y is. is)
          ∙ ap (λ (n : ℕ). replicate n true) (c.len-2.ensures ∙ rows.ok.0))
          (ap (length {A = List ℕ}) c.in_ok-kept.ensures.lines
          ∙ length-replicate c.len.result []
          ∙ (c.len.ensures ∙ rows.ok.0)),
    )
