use Rattle.std.proofs.Common.{◌≡◌, take}
use Rattle.std.specs.List.{list_all}
use Rattle.pls_bits.specs.Hex.{is_lower_digit}
use Rattle.pls_bits.proofs.hex_text.are_lower.Given as goal

abbrev pub invariant-loop-digit : goal.invariant-loop-digit
invariant-loop-digit l = l.lower ≡ list_all is_lower_digit (take l.digit-index l.digits)
