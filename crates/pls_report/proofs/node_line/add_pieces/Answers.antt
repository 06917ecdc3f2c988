use Rattle.std.proofs.Common.{◌∙◌, ◌++◌, ◌∷◌, [], List, ℕ, ap}
use Rattle.pls_report.specs.inner.Pieces.{stale_tail}
use Rattle.pls_report.proofs.LookTexts.{node_behind}
use Rattle.pls_report.proofs.node_line.add_pieces.Goals as goal

pub returns-clause-line : goal.returns-clause-line
returns-clause-line c =
    c.in_ok-push.ensures.items
    ∙ ap (λ (line : List ℕ). line ++ 10 ∷ [])
    (c.in_ok-add_stale.ensures.text
    ∙ (λ i. c.in_ok-add_outcome.ensures.text i ++ stale_tail (c.told_ports.ensures i)))
    ∙ node_behind c.args.text.now.items c.args.id c.args.outcome.now c.args.stale.now
