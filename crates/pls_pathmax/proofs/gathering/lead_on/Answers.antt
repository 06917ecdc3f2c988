use Rattle.std.proofs.Common.{◌≡◌, ◌∙◌, ◌+◌, ℕ, inl, inr, false, get_or, ap, arith}
use Rattle.std.proofs.lemmas.Bool.{cases_lt, leb-true}
use Rattle.pls_pathmax.proofs.gathering.lead_on.Goals as goal

pub loop-number-preserved : goal.loop-number-preserved
loop-number-preserved c k below =
    elim (cases_lt k c.loop-number.number) [
      | inl before ↦ c.loop-number.invariant k before
      | inr later ↦
          let here : k ≡ c.loop-number.number = omega (arith, below, later) in
          ap (λ (k : ℕ). get_or c.args.led_on.now k false) here ∙ c.if-not-led_on-number.false
    ]

pub returns-then-not-led_on-number : goal.returns-then-not-led_on-number
returns-then-not-led_on-number c last k within before =
    c.loop-number.invariant k
    (omega (arith, leb-true c.args.count (c.loop-number.number + 1) last, before))
