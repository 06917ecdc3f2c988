use Rattle.std.proofs.Common.{◌≡◌, ◌∙◌, ap, sym, arith}
use Rattle.pls_numbers.specs.Fixed.{behind_numbers}
use Rattle.pls_numbers.specs.Numbers.{NumbersLeft}
use Rattle.pls_numbers.specs.Shape.{if_clean}
use Rattle.pls_numbers.specs.laws.FixedLaws.{read_all, read_short, read_spare}
use Rattle.pls_example_weights.specs.SameWeights.{weights_of_numbers}
use Rattle.pls_example_weights.specs.laws.SameWeightsLaws.{few_read}
use Rattle.pls_example_weights.proofs.format.read_weights.Goals as goal

pub returns-in_err-next : goal.returns-in_err-next
returns-in_err-next g c =
    let before = c.loop.invariant in
    let left : NumbersLeft = behind_numbers c.loop.weights c.loop.left in
    c.from_residual-in_err-next.ensures
    ∙ sym (ap (if_clean weights_of_numbers) before.all
    ∙ few_read c.in_ok-count.count left before.small
    ∙ read_short c.in_ok-count.count c.loop.weights c.loop.left
    (omega (arith, before.many, c.loop-test.true)) c.in_err-next.ensures.none)

pub returns-then-is_end : goal.returns-then-is_end
returns-then-is_end g c =
    let before = c.loop.invariant in
    let ends : c.loop.counter ≡ c.in_ok-count.count = omega (arith, before.within, c.loop-test.false) in
    sym (ap (if_clean weights_of_numbers) before.all
    ∙ few_read c.in_ok-count.count (behind_numbers c.loop.weights c.loop.left) before.small
    ∙ read_all c.in_ok-count.count c.loop.weights c.loop.left (before.many ∙ ends)
    (sym c.is_end.ensures ∙ c.if-is_end.true))

pub returns-else-is_end : goal.returns-else-is_end
returns-else-is_end g c =
    let before = c.loop.invariant in
    let ends : c.loop.counter ≡ c.in_ok-count.count = omega (arith, before.within, c.loop-test.false) in
    sym (ap (if_clean weights_of_numbers) before.all
    ∙ few_read c.in_ok-count.count (behind_numbers c.loop.weights c.loop.left) before.small
    ∙ read_spare c.in_ok-count.count c.loop.weights c.loop.left (before.many ∙ ends)
    (sym c.is_end.ensures ∙ c.if-is_end.false))
