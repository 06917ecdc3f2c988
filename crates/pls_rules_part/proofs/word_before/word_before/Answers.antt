use Rattle.pls_rules_part.proofs.FirstByte.{cut_first, cut_none, not_found}
use Rattle.pls_rules_part.proofs.word_before.word_before.Goals as goal

pub returns-in_err-place-clause-none : goal.returns-in_err-place-clause-none
returns-in_err-place-clause-none c =
    rw c.from_residual.ensures (λ word rest lacks same.
    not_found c.args.end c.args.text.now word rest c.in_err-place.ensures lacks same)

pub returns-clause-first : goal.returns-clause-first
returns-clause-first c =
    cut_first c.args.end c.args.text.now c.in_ok-place.place c.bytes_before.result
    c.in_ok-place.ensures c.bytes_before.ensures.stands c.bytes_before.ensures.long

pub returns-clause-none : goal.returns-clause-none
returns-clause-none c =
    cut_none c.args.end c.args.text.now c.in_ok-place.place c.bytes_before.result
    c.in_ok-place.ensures c.bytes_before.ensures.none
