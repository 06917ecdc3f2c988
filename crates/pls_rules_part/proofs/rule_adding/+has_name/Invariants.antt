use Rattle.std.specs.Prelude.{length}
use Rattle.pls_rules_part.proofs.rule_adding.+has_name.Given as goal

-- each call has one field less
abbrev pub decreases-has_name : goal.decreases-has_name
decreases-has_name l = length l.fields.now
