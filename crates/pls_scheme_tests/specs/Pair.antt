-- Two verdicts on one view.
use Rattle.std.specs.Prelude.{ℕ, ◌+◌}
use Rattle.std.proofs.Common.{arith}
use Rattle.pls_configuration.specs.declared.verdict.Verdict.{Verdict}
use Rattle.pls_configuration.specs.declared.verdict.Verdict.TheVariants.{Accept, Reject}
use Rattle.pls_scheme.specs.Judging.{LeafWithin}

-- the second verdict where the first accepts, else the first
abbrev pub both_accept : Verdict → Verdict → Verdict
both_accept Accept second = second
both_accept (Reject leaf rule) second = Reject leaf rule

-- what two verdicts come to names a leaf of one of them
pub leaf_of_both : (one other : ℕ) (first second : Verdict) → LeafWithin one first
    → LeafWithin other second → LeafWithin (one + other) (both_accept first second)
leaf_of_both one other Accept Accept here there = tt
leaf_of_both one other Accept (Reject leaf rule) here there = omega (arith, there)
leaf_of_both one other (Reject leaf rule) second here there = omega (arith, here)
