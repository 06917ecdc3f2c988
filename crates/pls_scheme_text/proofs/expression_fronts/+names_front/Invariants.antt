use Rattle.pls_scheme_text.proofs.expression_fronts.+names_front.Given as goal

-- each call has one level less below it
abbrev pub decreases-names_front : goal.decreases-names_front
decreases-names_front l = l.below
