use Rattle.std.proofs.Common.{◌≡◌, take}
use Rattle.pls_rules.specs.RuleSet.{kinds_of}
use Rattle.pls_compile.proofs.rule_checker.RuleChecker.new.Given as goal

-- the kinds of the fields so far
abbrev pub invariant-loop-field : goal.invariant-loop-field
invariant-loop-field l = l.kinds.items ≡ kinds_of (take l.field-index l.field-items)
