-- Rule sets and their texts.
use Rattle.std.proofs.Common.{◌≡◌, ℕ, List, [], ◌∷◌, codes, None, Some, refl}
use Rattle.std.specs.Fmt.{digits}
use Rattle.pls_streams.specs.declared.text_error.TextError.TheVariants.{Sense}
use Rattle.pls_numbers.specs.declared.kind.FieldKind.{FieldKind}
use Rattle.pls_numbers.specs.declared.kind.FieldKind.TheVariants.{Num, Bit}
use Rattle.pls_rules.specs.declared.field.Field.{Field}
use Rattle.pls_rules.specs.Formula.{Formula, All, Any, Eq, Id, My, Nb, Not, Number}
use Rattle.pls_rules.specs.RuleSet.{Rules, rules_of}
use Rattle.pls_rule_text.specs.RuleText.{Shallow}
use Rattle.pls_rules_part.specs.RulesText.{RulesSaid, rules_refusal, rules_text, said_of_set, set_said}

abbrev field : List ℕ → FieldKind → Field
field name kind = record { name = name; kind = kind }

-- each neighbour's colour is another
abbrev bipartite_set : Rules
bipartite_set = rules_of (field (codes "colour") Bit ∷ []) (All (Not (Eq (Nb 0) (My 0))) ∷ [])

bipartite_text : rules_text (said_of_set bipartite_set)
    ≡ codes "rules\nfield colour bit\nrule all(not(eq(nb.colour,my.colour)))\nend\n"
bipartite_text = refl

bipartite_accepted : rules_refusal 1 (said_of_set bipartite_set) ≡ None
bipartite_accepted = refl

bipartite_again : set_said (said_of_set bipartite_set) ≡ bipartite_set
bipartite_again = refl

-- one field, `depth`, and one rule
abbrev with_rule : Formula (List ℕ) → RulesSaid
with_rule rule = record { fields = field (codes "depth") Num ∷ []; rules = Shallow rule ∷ [] }

-- a name that is no field
unknown_text : rules_text (with_rule (Eq (My (codes "root")) (Number 0)))
    ≡ codes "rules\nfield depth num\nrule eq(my.root,0)\nend\n"
unfolding digits
unknown_text = refl

unknown_refused : rules_refusal 1 (with_rule (Eq (My (codes "root")) (Number 0))) ≡ Some (Sense 50 3)
unknown_refused = refl

-- a neighbour outside of all quantifiers
outside_text : rules_text (with_rule (Eq (Nb (codes "depth")) (Number 0)))
    ≡ codes "rules\nfield depth num\nrule eq(nb.depth,0)\nend\n"
unfolding digits
outside_text = refl

outside_refused : rules_refusal 1 (with_rule (Eq (Nb (codes "depth")) (Number 0)))
    ≡ Some (Sense 50 3)
outside_refused = refl

-- three quantifiers inside one another
nested_text : rules_text (with_rule (All (Any (All (Eq Id (Number 0))))))
    ≡ codes "rules\nfield depth num\nrule all(any(all(eq(id,0))))\nend\n"
unfolding digits
nested_text = refl

nested_refused : rules_refusal 1 (with_rule (All (Any (All (Eq Id (Number 0)))))) ≡ Some (Sense 51 3)
nested_refused = refl

-- a name that is told twice is refused at its second line
twice_refused : rules_refusal 1 (record {
  fields = field (codes "depth") Num ∷ field (codes "depth") Bit ∷ [];
  rules = [];
}) ≡ Some (Sense 50 3)
twice_refused = refl
