use Rattle.std.specs.Prelude.{length}
use Rattle.pls_rule_text.proofs.atoms.+place_of.Given as goal

-- each call has one field less
abbrev pub decreases-place_of : goal.decreases-place_of
decreases-place_of l = length l.fields.now
