use Rattle.pls_rule_text.proofs.ends.+ends.Given as goal

-- each call has one level less below it
abbrev pub decreases-formula_end : goal.decreases-formula_end
decreases-formula_end l = l.below

abbrev pub decreases-term_end : goal.decreases-term_end
decreases-term_end l = l.below
