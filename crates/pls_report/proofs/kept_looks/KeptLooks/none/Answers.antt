use Rattle.std.proofs.Common.{◌∙◌, []}
use Rattle.pls_report.specs.inner.Kept.{pieces_of}
use Rattle.pls_report.specs.inner.KeptTexts.{last_lines}
use Rattle.pls_report.proofs.Kept.{pieces_empty}
use Rattle.pls_report.proofs.kept_looks.KeptLooks.none.Goals as goal

pub returns-clause-lines : goal.returns-clause-lines
returns-clause-lines c =
    (λ k. pieces_of (c.in_ok-vec.ensures.items_if_clones_equal (λ y is. is) k)
    (last_lines [] (c.new.ensures.items k)))
    ∙ pieces_empty c.args.count
