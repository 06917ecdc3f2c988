-- Expressions and rule sets as they are held.
use Rattle.std.specs.Prelude.{ℕ, map}
use Rattle.pls_rules.specs.declared.expr.BoolExpr.{BoolExpr, Eq' as eq, Lt' as lt, Le' as le, Same' as same, Both' as both, Either' as either, Not' as negation, All' as all, Any' as any}
use Rattle.pls_rules.specs.declared.expr.NumExpr.{NumExpr, Number as number, Id as id, Mark as mark, Num as num, Degree as degree, Pointed as pointed, My as my, Up as up, UpWeight as up_weight, Nb as nb, NbWeight as nb_weight, NbUp as nb_up, Add' as add, Sum' as sum}
use Rattle.pls_rules.specs.declared.rule_set.RuleSet.{RuleSet}
use Rattle.pls_rules.specs.Formula.{Formula, Term, Eq, Lt, Le, Same, Both, Either, Not, All, Any, Number, Id, Mark, Num, Degree, Pointed, My, Up, UpWeight, Nb, NbWeight, NbUp, Add, Sum}
use Rattle.pls_rules.specs.RuleSet.{Rules, rules_of}

abbrev mutual
  -- the formula that is held
  pub formula_of : BoolExpr → Formula ℕ
  formula_of (eq p a q b) = Eq (term_of a) (term_of b)
  formula_of (lt p a q b) = Lt (term_of a) (term_of b)
  formula_of (le p a q b) = Le (term_of a) (term_of b)
  formula_of (same p a q b) = Same (formula_of a) (formula_of b)
  formula_of (both p a q b) = Both (formula_of a) (formula_of b)
  formula_of (either p a q b) = Either (formula_of a) (formula_of b)
  formula_of (negation p a) = Not (formula_of a)
  formula_of (all p a) = All (formula_of a)
  formula_of (any p a) = Any (formula_of a)

  -- the term that is held
  pub term_of : NumExpr → Term ℕ
  term_of (number n) = Number n
  term_of id = Id
  term_of mark = Mark
  term_of num = Num
  term_of degree = Degree
  term_of pointed = Pointed
  term_of (my f) = My f
  term_of (up f) = Up f
  term_of up_weight = UpWeight
  term_of (nb f) = Nb f
  term_of nb_weight = NbWeight
  term_of nb_up = NbUp
  term_of (add p a q b) = Add (term_of a) (term_of b)
  term_of (sum p a q b) = Sum (formula_of a) (term_of b)

-- the set that is held
abbrev pub set_of : RuleSet → Rules
set_of set = rules_of set.fields.items (map formula_of set.rules.items)
