use Rattle.std.proofs.Common.{◌≡◌, ◌∙◌, Some, None, ap, refl, sym}
use Rattle.pls_bits.specs.Delta.{behind_count, delta_takes}
use Rattle.pls_bits.specs.Gamma.{gamma_takes}
use Rattle.pls_bits.specs.laws.DeltaLaws.{delta_takes-only}
use Rattle.pls_bits.proofs.NoCode.{delta_takes-none}
use Rattle.pls_bits.proofs.delta.DeltaNumCode.read.Goals as goal

no_count : (c : goal.After-from_residual) → delta_takes c.args.cursor.now ≡ None
unfolding delta_takes
no_count c =
    ap (λ bits. behind_count (gamma_takes bits)) (sym (c.cursor-ahead.ensures ∙ c.rest.ensures))
    ∙ ap behind_count c.in_err-count.ensures.takes.0

pub returns-in_err-count-clause-none : goal.returns-in_err-count-clause-none
returns-in_err-count-clause-none c =
    rw c.from_residual.ensures (delta_takes-none c.args.cursor.now (no_count c))

pub returns-in_err-count-clause-takes : goal.returns-in_err-count-clause-takes
returns-in_err-count-clause-takes c = rw c.from_residual.ensures (no_count c, refl)

no_digits : (c : goal.After-from_residual-in_err-number) → delta_takes c.args.cursor.now ≡ None
unfolding delta_takes
no_digits c =
    ap (λ bits. behind_count (gamma_takes bits)) (sym (c.cursor-ahead.ensures ∙ c.rest.ensures))
    ∙ ap behind_count c.in_ok-count.ensures.takes ∙ c.in_err-number.ensures.0

pub returns-in_err-number-clause-none : goal.returns-in_err-number-clause-none
returns-in_err-number-clause-none c =
    rw c.from_residual-in_err-number.ensures (delta_takes-none c.args.cursor.now (no_digits c))

pub returns-in_err-number-clause-takes : goal.returns-in_err-number-clause-takes
returns-in_err-number-clause-takes c =
    rw c.from_residual-in_err-number.ensures (no_digits c, refl)

number : (c : goal.In_ok-number)
    → delta_takes c.args.cursor.now ≡ Some (c.in_ok-number.number, c.digits_behind_one.new.cursor)
unfolding delta_takes
number c =
    ap (λ bits. behind_count (gamma_takes bits)) (sym (c.cursor-ahead.ensures ∙ c.rest.ensures))
    ∙ ap behind_count c.in_ok-count.ensures.takes ∙ c.in_ok-number.ensures

pub returns-clause-takes : goal.returns-clause-takes
returns-clause-takes c = number c

pub returns-clause-found : goal.returns-clause-found
returns-clause-found c = (delta_takes-only _ _ _ (number c)).1

pub returns-clause-small : goal.returns-clause-small
returns-clause-small c = (delta_takes-only _ _ _ (number c)).0
