use Rattle.std.proofs.Common.{◌*◌, ◌+◌, ◌++◌, List, ℕ, ap, arith, drop, subst, take, ◌∙◌}
use Rattle.std.proofs.lemmas.List.{take-append-drop, take_all}
use Rattle.pls_streams.specs.Gathered.{Wrote, WroteFront}
use Rattle.pls_streams.proofs.Written.{failed, front_first, front_later, wrote_both}
use Rattle.pls_bits.specs.Hex.{hex_digits}
use Rattle.pls_bits.proofs.Text.{length-hex_digits}
use Rattle.pls_labelfile.proofs.LabelsWritten.{digits_more}
use Rattle.pls_labelfile.proofs.labels_write.put_digits.Goals as goal

pub loop-k-preserved : goal.loop-k-preserved
loop-k-preserved g c =
    let digits : List ℕ = hex_digits c.args.bits.now in
    let k : ℕ = c.loop-k.k in
    subst (Wrote _ _ _ _ _ _ _ _) (digits_more digits _ k c.hex_word-count.ensures.digits)
    (wrote_both (take (16 * k) digits) _ c.loop-k.invariant c.in_ok-put_front.ensures)

pub returns-in_err-put_front : goal.returns-in_err-put_front
returns-in_err-put_front g c =
    let digits : List ℕ = hex_digits c.args.bits.now in
    let k : ℕ = c.loop-k.k in
    let rest : List ℕ = drop (16 * (k + 1)) digits in
    let here = front_later (take (16 * k) digits) _ c.loop-k.invariant c.in_err-put_front.ensures in
    failed _ _ c.from_residual.result digits c.from_residual.ensures.0
    (subst (WroteFront _ _ _ _ _ _)
    (ap (λ (front : List ℕ). front ++ rest) (digits_more digits _ k c.hex_word-count.ensures.digits)
    ∙ take-append-drop (16 * (k + 1)) digits) (front_first _ rest here))

pub returns : goal.returns
returns g c =
    let digits : List ℕ = hex_digits c.args.bits.now in
    subst (Wrote _ _ _ _ _ _ _ _)
    (take_all (16 * c.loop-k.k) digits
    (omega (
      arith,
      length-hex_digits c.args.bits.now,
      c.loop-k-test.false,
      c.len.ensures,
      c.div_ceil-k-end.ensures,
    ))) c.loop-k.invariant
