use Rattle.std.proofs.Common.{rules, ◌≡◌, ℕ, None, length, replicate, get_or, subst, sym, arith}
use Rattle.pls_boruvka.specs.inner.Choices.{AreChoices}
use Rattle.pls_boruvka.proofs.Firsts.{AreChoices-more, AreChoices-none}
use Rattle.pls_boruvka.proofs.choosing.choices_of.Goals as goal

pub loop-place-init : goal.loop-place-init
loop-place-init c =
    let blank : c.fill.new.self ≡ replicate (length c.args.net.now) None = search rules in
    subst (AreChoices c.args.net.now c.args.tops.now 0) (sym blank)
    (AreChoices-none c.args.net.now c.args.tops.now)

pub first_with-requires-clause-before : goal.first_with-requires-clause-before
first_with-requires-clause-before c =
    let tops = c.args.tops.now in
    let place = c.loop-place.place in
    c.loop-place.invariant.first (get_or tops place 0) (c.requires.within place 0
    (omega (arith, c.loop-place-test.true, c.requires.each)))

pub loop-place-preserved : goal.loop-place-preserved
loop-place-preserved c =
    AreChoices-more c.args.net.now c.args.tops.now c.loop-place.place c.loop-place.choices
    c.first_with.result
    (c.requires.within c.loop-place.place 0
    (omega (arith, c.loop-place-test.true, c.requires.each)))
    c.loop-place.invariant c.first_with.ensures

pub returns : goal.returns
returns c =
    subst (λ (count : ℕ). AreChoices c.args.net.now c.args.tops.now count
    c.loop-place.choices)
    (omega (
      arith,
      c.loop-place-test.false,
      c.loop-place.auto.place-end,
      c.len-place-end.ensures.len,
    ))
    c.loop-place.invariant
