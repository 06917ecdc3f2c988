use Rattle.std.proofs.Common.{◌≡◌, ◌∙◌, ℕ, [], length, sym, ap}
use Rattle.std.proofs.lemmas.Bool.{eqb-false, eqb-true}
use Rattle.std.proofs.lemmas.List.{nil_from_length}
use Rattle.pls_sim.specs.declared.outcome.Outcome.TheVariants.{Decided}
use Rattle.pls_watch.proofs.Looked.{decided_in, waiting_in}
use Rattle.pls_watch.proofs.watch.Watch.outcome_by.Goals as goal

pub returns-then-not-is_empty-clause-outcome : goal.returns-then-not-is_empty-clause-outcome
returns-then-not-is_empty-clause-outcome g c = λ row stands.
    waiting_in (g.K.Checker.judge c.args.checker.now) c.args.self.now row c.args.silent
    (c.requires.silent row stands)
    (λ none. eqb-false (length c.as_slice.result.now) 0
    (sym c.is_empty.ensures ∙ c.if-not-is_empty.true)
    (ap (length {A = ℕ}) (c.as_slice.ensures.numbers ∙ none)))

pub returns-clause-outcome : goal.returns-clause-outcome
returns-clause-outcome g c = λ row stands.
    let none : c.args.silent ≡ [] =
    sym c.as_slice.ensures.numbers
    ∙ nil_from_length c.as_slice.result.now
    (eqb-true (length c.as_slice.result.now) 0 (sym c.is_empty.ensures ∙ c.if-not-is_empty.false)) in
    let are = c.requires.silent row stands in
    ap (λ verdict. Decided verdict) (c.in_ok-verdict.ensures.verdict row stands (sym are ∙ none))
    ∙ decided_in (g.K.Checker.judge c.args.checker.now) c.args.self.now row (sym are ∙ none)
