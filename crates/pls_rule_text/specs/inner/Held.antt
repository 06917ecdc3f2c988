-- Expressions as they are held while a text is read: fields stand by their places among names.
use Rattle.std.specs.Prelude.{ℕ, List}
use Rattle.std.specs.Borrow.{Bor}
use Rattle.pls_fronts.specs.Front.{Front, followed}
use Rattle.pls_rules.specs.declared.expr.BoolExpr.{BoolExpr}
use Rattle.pls_rules.specs.declared.expr.NumExpr.{NumExpr}
use Rattle.pls_rules.specs.Formula.{Formula, Term}
use Rattle.pls_rules.specs.HeldTrees.{formula_of, term_of}
use Rattle.pls_rule_text.specs.RuleText.{formula_with, place_of_name, term_with}

-- what a call found, which lends what follows
abbrev pub found_formula : BoolExpr × Bor (List ℕ) → Front (Formula ℕ)
found_formula found = followed (formula_of found.0) found.1.now

abbrev pub found_term : NumExpr × Bor (List ℕ) → Front (Term ℕ)
found_term found = followed (term_of found.0) found.1.now

-- an expression in front, whose fields stand by their places among the names
abbrev pub placed_formula : List (List ℕ) → Front (Formula (List ℕ)) → Front (Formula ℕ)
placed_formula names front = followed (formula_with (place_of_name names) front.item) front.rest

abbrev pub placed_term : List (List ℕ) → Front (Term (List ℕ)) → Front (Term ℕ)
placed_term names front = followed (term_with (place_of_name names) front.item) front.rest

-- what follows it
abbrev pub rest_of : {A : Type 0} → Front A → List ℕ
rest_of front = front.rest
