-- What a text says, as it is read over the names of fields.
use Rattle.std.proofs.Common.{◌≡◌, ◌∙◌, ℕ, length, nat_lt, true, false, List, Option, Some, None, option_map, refl, sym, ap}
use Rattle.std.specs.Option.{is_some}
use Rattle.std.proofs.lemmas.Bool.{lt-ltb}
use Rattle.std.proofs.lemmas.List.{length-map}
use Rattle.std.proofs.lemmas.Option.{same_Some}
use Rattle.pls_streams.specs.declared.refusal_number.TheConstants.{DEPTH}
use Rattle.pls_fronts.specs.Depth.{deepest}
use Rattle.pls_rules.specs.declared.field.Field.{Field}
use Rattle.pls_rules.specs.Formula.{Formula}
use Rattle.pls_rule_text.specs.FieldNames.{names_of}
use Rattle.pls_rule_text.specs.Refused.{IsTreeOf}
use Rattle.pls_rule_text.specs.RuleText.{Deep, FitsRule, RuleSaid, Shallow, formula_with, place_of_name, rule_refusal, rule_text}
use Rattle.pls_rule_text.specs.inner.Fronts.{formula_in}
use Rattle.pls_rule_text.specs.inner.Places.{placed_refusal}
use Rattle.pls_rule_text.specs.laws.RuleLaws.{deep_says_none, formula_in-text, shallow_sentence}
use Rattle.pls_rule_text.specs.laws.SenseLaws.{refusal-placed}
use Rattle.pls_rule_text.specs.laws.Tests.{no_truth}

-- where parentheses stand too deep, that is why it is refused
pub deep_refused : (names : List (List ℕ)) (text : List ℕ) → true ≡ nat_lt 31 (deepest 0 text)
    → (rule : RuleSaid) → FitsRule rule → text ≡ rule_text rule → rule_refusal names rule ≡ Some DEPTH
deep_refused names text deep (Deep said) fits written = refl
deep_refused names text deep (Shallow formula) fits written =
    absurd (no_truth (sym (shallow_sentence formula (fits.writable, fits.shallow))
    ∙ ap (λ t. nat_lt 31 (deepest 0 t)) (sym written) ∙ sym deep))

-- where they do not, a rule's text says a formula
pub formula_said : (text : List ℕ) → false ≡ nat_lt 31 (deepest 0 text) → (rule : RuleSaid)
    → FitsRule rule → text ≡ rule_text rule → is_some (formula_in text) ≡ true
formula_said text shallow (Shallow formula) fits written =
    rw (written, formula_in-text formula (fits.writable, fits.shallow)) refl
formula_said text shallow (Deep said) fits written =
    absurd (no_truth (shallow ∙ ap (λ t. nat_lt 31 (deepest 0 t)) written
    ∙ lt-ltb 31 (deepest 0 said) fits.deep))

-- and what is read is its tree
pub tree_said : (names : List (List ℕ)) (text : List ℕ) (tree : Formula ℕ)
    → Some tree ≡ option_map (formula_with (place_of_name names)) (formula_in text)
    → (rule : RuleSaid) → FitsRule rule → text ≡ rule_text rule → IsTreeOf names rule tree
tree_said names text tree is (Shallow formula) fits written =
    same_Some tree (formula_with (place_of_name names) formula)
    (is ∙ ap (option_map (formula_with (place_of_name names)))
    (ap formula_in written ∙ formula_in-text formula (fits.writable, fits.shallow)))
tree_said names text tree is (Deep said) fits written =
    nothing (is ∙ ap (option_map (formula_with (place_of_name names)))
    (ap formula_in written ∙ deep_says_none said fits.deep))
  where
    nothing : Some tree ≡ None → ⊥
    nothing none = absurd (cc)

-- which is refused as the rule is
tree_refused : (names : List (List ℕ)) (tree : Formula ℕ) (rule : RuleSaid)
    → IsTreeOf names rule tree → placed_refusal (length names) tree ≡ rule_refusal names rule
tree_refused names tree (Shallow formula) is = rw is (refusal-placed names formula)
tree_refused names tree (Deep said) is = absurd is

pub refused_as_said : (fields : List Field) (text : List ℕ) (tree : Formula ℕ) (answer : Option ℕ)
    → Some tree ≡ option_map (formula_with (place_of_name (names_of fields))) (formula_in text)
    → answer ≡ placed_refusal (length fields) tree
    → (rule : RuleSaid) → FitsRule rule → text ≡ rule_text rule
    → rule_refusal (names_of fields) rule ≡ answer
refused_as_said fields text tree answer is told rule fits written =
    sym (tree_refused (names_of fields) tree rule
    (tree_said (names_of fields) text tree is rule fits written))
    ∙ ap (λ (count : ℕ). placed_refusal count tree) (length-map fields (λ (field : Field). field.name))
    ∙ sym told
