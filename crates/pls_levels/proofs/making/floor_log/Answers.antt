use Rattle.std.proofs.Common.{◌≡◌, ◌∙◌, ℕ, min, sym, ap, arith}
use Rattle.pls_bits.specs.Gamma.{floor_log}
use Rattle.pls_levels.proofs.Logarithm.{floor_log-min, floor_log-zero}
use Rattle.pls_levels.proofs.making.floor_log.Goals as goal

pub returns-then-number-eq0 : goal.returns-then-number-eq0
returns-then-number-eq0 c =
    let none : 0 ≡ c.args.number = omega (arith, c.if-number-eq0.true) in
    sym floor_log-zero ∙ ap floor_log none

pub returns : goal.returns
returns c = c.min.ensures ∙ ap (λ (log : ℕ). min log 62) c.from.ensures
    ∙ floor_log-min c.ilog2.result c.args.number c.ilog2.ensures.power_le
    c.ilog2.ensures.next_power_gt
