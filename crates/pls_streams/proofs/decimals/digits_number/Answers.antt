use Rattle.std.proofs.Common.{ℕ, ◌+◌, ◌*◌, get_or, sym, ap, ◌∙◌}
use Rattle.std.specs.Char.{digit_value}
use Rattle.std.proofs.lemmas.Int.Digits.{digits_more, digits_value_more}
use Rattle.pls_streams.proofs.decimals.digits_number.Goals as goal

pub loop-byte-preserved : goal.loop-byte-preserved
loop-byte-preserved c =
    let text = c.args.text.now in
    let i = c.loop-byte.byte-index in
    let digit = digit_value (get_or text i 0) in record {
      digits =
          digits_more 10 text i c.loop-byte-test.true c.loop-byte.invariant.digits
          c.in_ok-number.ensures.digit;
      value = c.in_ok-number.ensures.value
          ∙ ap (λ (n : ℕ). n * 10 + digit) c.loop-byte.invariant.value
          ∙ sym (digits_value_more 10 text i c.loop-byte-test.true);
    }
