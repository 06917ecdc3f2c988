use Rattle.pls_scheme_text.proofs.expression_fronts.+tree_front.Given as goal

-- each call has one level less below it
abbrev pub decreases-tree_front : goal.decreases-tree_front
decreases-tree_front l = l.below
