-- The text of a verdict.
use Rattle.std.specs.Prelude.{ℕ, List, ◌++◌, codes, decimal}
use Rattle.pls_configuration.specs.declared.verdict.Verdict.{Verdict}
use Rattle.pls_configuration.specs.declared.verdict.Verdict.TheVariants.{Accept, Reject}

-- `accept`, or `reject LEAF RULE`
abbrev pub verdict_text : Verdict → List ℕ
verdict_text Accept = codes "accept"
verdict_text (Reject leaf rule) = codes "reject " ++ decimal leaf ++ codes " " ++ decimal rule
