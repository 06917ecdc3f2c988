-- The front of a number is smaller than the number.
use Rattle.pls_streams.proofs.decimals.+put_digits.Given as goal

abbrev pub decreases-put_digits : goal.decreases-put_digits
decreases-put_digits l = l.value
