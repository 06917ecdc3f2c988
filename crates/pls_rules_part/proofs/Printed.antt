-- The text of a rule set as it is printed, line by line.
use Rattle.std.proofs.Common.{◌≡◌, ◌∙◌, ℕ, ◌+◌, ◌<◌, List, [], ◌∷◌, ◌++◌, map, take, length, get_or, codes, append_assoc, refl, sym, ap, subst}
use Rattle.std.proofs.lemmas.List.{map-append, map_more}
use Rattle.pls_lines.specs.Text.{line_of, text_of}
use Rattle.pls_lines.specs.laws.Fronts.{text_of-append}
use Rattle.pls_rules.specs.HeldTrees.{formula_of, set_of}
use Rattle.pls_rules.specs.declared.expr.BoolExpr.{BoolExpr}
use Rattle.pls_rules.specs.declared.field.Field.{Field}
use Rattle.pls_rules.specs.declared.rule_set.RuleSet.{RuleSet}
use Rattle.pls_rule_text.specs.FieldNames.{name_at, names_of}
use Rattle.pls_rule_text.specs.RuleText.{Shallow, formula_with}
use Rattle.pls_rule_text.specs.laws.PrintLaws.{text-with}
use Rattle.pls_rules_part.specs.RulesText.{OfField, OfRule, rule_line, rules_text, said_of_set}
use Rattle.pls_rules_part.specs.inner.Printed.{printed_field, printed_rule}

-- the line of one more item
pub line_more : {X : Type 0} (written : X → List ℕ) (items : List X) (i : ℕ) (item : X)
    (start old new : List ℕ) → i < length items → item ≡ get_or items i item
    → old ≡ start ++ text_of (map written (take i items))
    → new ≡ old ++ text_of (written item ∷ [])
    → new ≡ start ++ text_of (map written (take (i + 1) items))
line_more {X = X} written items i item start old new within here first then =
    let lines = map written (take i items) in
    subst (λ lines. new ≡ start ++ text_of lines)
    (ap (λ (x : X). map written (take i items) ++ written x ∷ []) here
    ∙ sym (map_more written items i item within))
    (then ∙ ap (λ text. text ++ text_of (written item ∷ [])) first
    ∙ append_assoc start (text_of lines) (text_of (written item ∷ []))
    ∙ ap (λ text. start ++ text) (sym (text_of-append lines (written item ∷ []))))

-- the lines of fields and of rules are those of what the set says
fields_printed : (fields : List Field) → map rule_line (map OfField fields) ≡ map printed_field fields
fields_printed [] = refl
fields_printed (field ∷ fields) =
    ap (λ lines. printed_field field ∷ lines) (fields_printed fields)

rules_printed : (names : List (List ℕ)) (rules : List BoolExpr)
    → map rule_line (map OfRule (map (λ rule. Shallow (formula_with (name_at names) rule))
    (map formula_of rules))) ≡ map (printed_rule names) rules
rules_printed names [] = refl
rules_printed names (rule ∷ rules) =
    let here = text-with (name_at names) (formula_of rule) in
    let later = rules_printed names rules in
    λ i. line_of (codes "rule" ∷ sym here i ∷ []) ∷ later i

-- all of them, with heading and `end`
pub set_printed : (set : RuleSet) (heading fields rules whole : List ℕ)
    → heading ≡ codes "rules" ++ 10 ∷ []
    → fields ≡ heading ++ text_of (map printed_field set.fields.items)
    → rules ≡ fields ++ text_of (map (printed_rule (names_of set.fields.items)) set.rules.items)
    → whole ≡ rules ++ text_of (codes "end" ∷ [])
    → whole ≡ rules_text (said_of_set (set_of set))
set_printed set heading fields rules whole is_heading is_fields is_rules is_whole =
    let names = names_of set.fields.items in
    let first = map printed_field set.fields.items in
    let later = map (printed_rule names) set.rules.items in
    let end = codes "end" ∷ [] in
    is_whole ∙ ap (λ text. text ++ text_of end) is_rules
    ∙ ap (λ text. (text ++ text_of later) ++ text_of end) is_fields
    ∙ ap (λ text. ((text ++ text_of first) ++ text_of later) ++ text_of end) is_heading
    ∙ ap (λ text. text ++ text_of end)
    (sym (text_of-append (codes "rules" ∷ first) later))
    ∙ sym (text_of-append (codes "rules" ∷ first ++ later) end)
    ∙ ap (λ lines. text_of (codes "rules" ∷ lines ++ end))
    (ap (λ lines. lines ++ later) (sym (fields_printed set.fields.items))
    ∙ ap (λ lines. map rule_line (map OfField set.fields.items) ++ lines)
    (sym (rules_printed names set.rules.items))
    ∙ sym (map-append rule_line (map OfField set.fields.items)
    (map OfRule (said_of_set (set_of set)).rules)))
