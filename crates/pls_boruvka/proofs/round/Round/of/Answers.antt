use Rattle.std.proofs.Common.{◌+◌, ℕ, List, Option, IfSome, sym, subst, arith}
use Rattle.pls_boruvka.specs.inner.Choices.{top_at}
use Rattle.pls_boruvka.specs.inner.Round.{AreNotedNumbers, IsFragmentNumber, IsOldOrNext}
use Rattle.pls_boruvka.proofs.Numbers.{AreChosen-numbered, AreNumbered, AreNumbered-more, AreFragmentNumbers-numbered}
use Rattle.pls_boruvka.proofs.round.Round.of.Goals as goal

pub loop-top-preserved : goal.loop-top-preserved
loop-top-preserved c =
    let rows = c.args.net.now in
    let choices = c.args.choices.now in
    let tops = c.args.tops.now in
    let new = c.number_of.new.chosen.items in
    subst (λ (numbers : List ℕ). AreNumbered rows choices tops new c.number_of.new.noted numbers
    (c.loop-top.top-index + 1)) (sym c.in_ok-push.ensures.items)
    (AreNumbered-more rows choices tops c.loop-top.chosen.items new c.loop-top.noted
    c.number_of.new.noted c.loop-top.numbers.items c.in-Some.number c.loop-top.top-index
    c.loop-top.invariant
    (subst (λ (found : Option ℕ). IfSome found (IsOldOrNext c.loop-top.chosen.items new))
    c.in-Some.is c.in_ok-number.ensures.next)
    (subst (λ (found : Option ℕ). IfSome found (λ number.
    AreNotedNumbers rows choices new c.number_of.new.noted))
    c.in-Some.is c.in_ok-number.ensures.noted)
    (subst (λ (found : Option ℕ). IfSome found (IsFragmentNumber rows choices new
    (top_at tops c.loop-top.top-index))) c.in-Some.is c.in_ok-number.ensures.number))

pub invariant_of-result : goal.invariant_of-result
invariant_of-result c =
    AreFragmentNumbers-numbered c.args.net.now c.args.choices.now c.args.tops.now c.loop-top.chosen.items
    c.loop-top.noted c.loop-top.numbers.items c.loop-top.top-index c.loop-top.invariant

pub returns-clause-chosen : goal.returns-clause-chosen
returns-clause-chosen c =
    AreChosen-numbered c.args.net.now c.args.choices.now c.args.tops.now c.loop-top.chosen.items
    c.loop-top.noted c.loop-top.numbers.items c.loop-top.top-index c.loop-top.invariant
    (omega (arith, c.loop-top-test.false, c.loop-top.auto.top-index-end, c.requires.each))
