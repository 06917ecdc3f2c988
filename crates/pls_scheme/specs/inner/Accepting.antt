-- Which verdicts accept.
use Rattle.std.specs.Prelude.{Bool, true, false}
use Rattle.pls_configuration.specs.declared.verdict.Verdict.{Verdict}
use Rattle.pls_configuration.specs.declared.verdict.Verdict.TheVariants.{Accept, Reject}

-- the verdict accepts
abbrev pub accepts : Verdict → Bool
accepts Accept = true
accepts (Reject leaf rule) = false
