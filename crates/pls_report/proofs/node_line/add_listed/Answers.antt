use Rattle.std.proofs.Common.{◌∙◌, ◌++◌, List, ℕ, codes, decimal, get_or, ap}
use Rattle.std.proofs.lemmas.List.{take_all}
use Rattle.pls_report.specs.inner.Pieces.{spaced}
use Rattle.pls_report.proofs.LookTexts.{listed_more}
use Rattle.pls_report.proofs.node_line.add_listed.Goals as goal

pub loop-number-preserved : goal.loop-number-preserved
loop-number-preserved c =
    let numbers = c.args.numbers.now in
    let i : ℕ = c.loop-number.number-index in
    c.in_ok-add_spaced.ensures.text
    ∙ ap (λ (line : List ℕ). line ++ (codes " " ++ decimal (get_or numbers i 0)))
    c.loop-number.invariant
    ∙ listed_more c.args.text.now.items c.args.word.now numbers i 0 c.loop-number-test.true

pub returns-clause-text : goal.returns-clause-text
returns-clause-text c =
    let numbers = c.args.numbers.now in
    let i : ℕ = c.loop-number.number-index in
    c.loop-number.invariant
    ∙ ap (λ (front : List ℕ). c.args.text.now.items ++ (c.args.word.now ++ spaced front))
    (take_all i numbers c.loop-number-test.false)
