use Rattle.std.proofs.Common.{◌∙◌, ◌+◌, ◌++◌, List, ℕ, codes, decimal, drop, take, get_or, ap, subst}
use Rattle.pls_streams.specs.Gathered.{Wrote, WroteFront}
use Rattle.pls_report.specs.inner.Pieces.{spaced}
use Rattle.pls_streams.proofs.Written.{failed, front_first, front_later, wrote_both}
use Rattle.pls_report.proofs.Texts.{spaced_more, spaced_rest}
use Rattle.pls_report.proofs.pieces.put_spaced.Goals as goal

pub returns-in_err-put_numbered : goal.returns-in_err-put_numbered
returns-in_err-put_numbered g c =
    let numbers = c.args.numbers.now in
    let i : ℕ = c.loop-number.number-index in
    let here = front_later (spaced (take i numbers))
    (codes " " ++ decimal (get_or numbers i 0)) c.loop-number.invariant c.in_err-put_numbered.ensures in
    let all = front_first _ (spaced (drop (i + 1) numbers)) here in
    failed _ _ c.from_residual.result (spaced numbers) c.from_residual.ensures.0
    (subst (WroteFront _ _ _ _ _ _)
    (ap (λ (front : List ℕ). front ++ spaced (drop (i + 1) numbers))
    (spaced_more numbers i 0 c.loop-number-test.true) ∙ spaced_rest numbers (i + 1)) all)

pub loop-number-preserved : goal.loop-number-preserved
loop-number-preserved g c =
    let numbers = c.args.numbers.now in
    let i : ℕ = c.loop-number.number-index in
    subst (Wrote _ _ _ _ _ _ _ _) (spaced_more numbers i 0 c.loop-number-test.true)
    (wrote_both (spaced (take i numbers)) (codes " " ++ decimal (get_or numbers i 0))
    c.loop-number.invariant c.in_ok-put_numbered.ensures)
