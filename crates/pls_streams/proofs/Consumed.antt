-- What a source that tells its bytes has lost.
use Rattle.std.proofs.Common.{◌≡◌, ℕ, List, Option, Some, None, length, drop, sym, ap, ◌∙◌, arith, length-append, drop_at}
use Rattle.std.specs.Io.KnownBytes.{Consumes}
use Rattle.pls_streams.specs.Streams.{LosesFirst}

-- what was consumed is the first bytes, as many as they are
pub LosesFirst-consumed : (old new : Option (List ℕ)) (bytes : List ℕ) (n : ℕ)
    → Consumes old new bytes → length bytes ≡ n → LosesFirst old new n
LosesFirst-consumed None new bytes n p e = tt
LosesFirst-consumed (Some xs) None bytes n p e = absurd p
LosesFirst-consumed (Some xs) (Some ys) bytes n p e = (
  rw (p, length-append) (omega arith),
  ap Some (sym (ap (drop n) p ∙ drop_at bytes ys n e)),
)
