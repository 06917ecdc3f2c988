-- Texts of rules, worked out.
use Rattle.std.proofs.Common.{◌≡◌, true, false, [], ◌∷◌, codes, Some, None, refl}
use Rattle.std.specs.Fmt.{digits}
use Rattle.pls_rules.specs.Formula.{All, Eq, Le, My, Nb, NbUp, Not, Number, UpWeight}
use Rattle.pls_rule_text.specs.RuleText.{Shallow, rule_refusal}
use Rattle.pls_rule_text.specs.inner.Atoms.{atom_front}
use Rattle.pls_rule_text.specs.inner.Fronts.{formula_front}
use Rattle.pls_rule_text.specs.inner.Said.{is_rule, rule_said}

bipartite : rule_said (codes "all(not(eq(nb.colour,my.colour)))")
    ≡ Shallow (All (Not (Eq (Nb (codes "colour")) (My (codes "colour")))))
unfolding formula_front atom_front digits
bipartite = refl

sensible : rule_refusal (codes "colour" ∷ []) (rule_said (codes "all(not(eq(nb.colour,my.colour)))"))
    ≡ None
unfolding formula_front atom_front digits
sensible = refl

unknown : rule_refusal (codes "colour" ∷ []) (rule_said (codes "eq(my.root,0)")) ≡ Some 50
unfolding formula_front atom_front digits
unknown = refl

outside : rule_refusal (codes "depth" ∷ []) (rule_said (codes "eq(nb.depth,0)")) ≡ Some 50
unfolding formula_front atom_front digits
outside = refl

nested : rule_refusal [] (rule_said (codes "all(any(all(eq(id,0))))")) ≡ Some 51
unfolding formula_front atom_front digits
nested = refl

-- a port's own words are no fields, and a field of another label may have any name
ports : rule_said (codes "le(up.weight,nb.up)") ≡ Shallow (Le UpWeight NbUp)
unfolding formula_front atom_front digits
ports = refl

own : rule_said (codes "eq(my.up,0)") ≡ Shallow (Eq (My (codes "up")) (Number 0))
unfolding formula_front atom_front digits
own = refl

-- a zero in front, a name of 17 letters, and what stands behind are of no rule
leading : is_rule (codes "eq(id,00)") ≡ false
unfolding formula_front atom_front digits
leading = refl

greatest : is_rule (codes "eq(id,9223372036854775806)") ≡ true
unfolding formula_front atom_front digits
greatest = refl

greater : is_rule (codes "eq(id,9223372036854775807)") ≡ false
unfolding formula_front atom_front digits
greater = refl

long : is_rule (codes "eq(id,my.abcdefghijklmnopq)") ≡ false
unfolding formula_front atom_front digits
long = refl

behind : is_rule (codes "eq(id,0))") ≡ false
unfolding formula_front atom_front digits
behind = refl

-- but a rule that is too deep may be of any of the characters
deep : rule_refusal [] (rule_said (codes "00))((((((((((((((((((((((((((((((((,my.weight")) ≡ Some 51
unfolding formula_front atom_front digits
deep = refl

deep_is_rule : is_rule (codes "00))((((((((((((((((((((((((((((((((,my.weight") ≡ true
deep_is_rule = refl

flat_is_none : is_rule (codes "00))(((((((((((((((((((((((((((((((,my.weight") ≡ false
unfolding formula_front atom_front digits
flat_is_none = refl
