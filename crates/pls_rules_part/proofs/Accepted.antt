-- A part that is not refused says a rule set that makes sense, and the set says it again.
use Rattle.std.proofs.Common.{◌≡◌, ◌∙◌, ℕ, ◌+◌, ◌≤◌, All, List, [], ◌∷◌, ◌++◌, map, length, Option, Some, None, Result, Ok, Err, IfOk, OnOk, refl, sym, ap, subst, arith}
use Rattle.std.specs.List.{AllByRecursion}
use Rattle.std.proofs.lemmas.List.{length-map}
use Rattle.std.proofs.lemmas.List.Elements.{All-cons, All-head, All-nil, All-tail}
use Rattle.pls_streams.specs.declared.text_error.TextError.{TextError}
use Rattle.pls_lines.specs.laws.Cuts.{each_back}
use Rattle.pls_configuration.specs.Configuration.{first_of}
use Rattle.pls_rules.specs.HeldTrees.{set_of}
use Rattle.pls_rules.specs.RuleSet.{AreRules, IsRule}
use Rattle.pls_rules.specs.declared.field.Field.{Field}
use Rattle.pls_rules.specs.declared.rule_set.RuleSet.{RuleSet}
use Rattle.pls_rule_text.specs.FieldNames.{name_at, names_of}
use Rattle.pls_rule_text.specs.RuleText.{Deep, FitsRule, RuleSaid, Shallow, formula_with, place_of_name, rule_refusal}
use Rattle.pls_rules_part.specs.RulesText.{AreRulesSaid, FitsRuleLine, OfField, OfRule, RulesSaid, field_refusals, line_refusals, refusals_from, said_of_set, set_said}
use Rattle.pls_rules_part.specs.inner.Adding.{refusal_from}
use Rattle.pls_rules_part.specs.inner.Progress.{trees_of}
use Rattle.pls_rules_part.specs.laws.SenseLaws.{accepted_again, accepted_rule}

-- where no refusal is the first there is none
none_refused : (line : ℕ) (refusals : List (Option ℕ))
    → first_of (refusals_from line refusals) ≡ None
    → AllByRecursion (λ refusal. refusal ≡ None) refusals
none_refused line [] none = tt
none_refused line (None ∷ others) none = (refl, none_refused (line + 1) others none)
none_refused line (Some number ∷ others) none = absurd (cc none)

-- rules behind lines of fields
rules_fit : (fields : List Field) (rules : List RuleSaid)
    → All FitsRuleLine (map OfField fields ++ map OfRule rules) → All FitsRule rules
rules_fit (field ∷ fields) rules fits =
    rules_fit fields rules
    (All-tail FitsRuleLine (OfField field) (map OfField fields ++ map OfRule rules) fits)
rules_fit [] [] fits = All-nil FitsRule
rules_fit [] (rule ∷ rules) fits =
    All-cons FitsRule rule rules (All-head FitsRuleLine (OfRule rule) (map OfRule rules) fits)
    (rules_fit [] rules (All-tail FitsRuleLine (OfRule rule) (map OfRule rules) fits))

module _ (names : List (List ℕ)) where
  abbrev NoneRefused : List RuleSaid → Type 0
  NoneRefused rules = AllByRecursion (λ refusal. refusal ≡ None) (map (rule_refusal names) rules)

  trees_fit : (rules : List RuleSaid) → All FitsRule rules → NoneRefused rules
      → All (IsRule (length names)) (trees_of names rules)
  trees_fit [] fits none = All-nil (IsRule (length names))
  trees_fit (Shallow formula ∷ rules) fits none =
      All-cons (IsRule (length names)) (formula_with (place_of_name names) formula)
      (trees_of names rules)
      (accepted_rule names formula (All-head FitsRule (Shallow formula) rules fits) none.0)
      (trees_fit rules (All-tail FitsRule (Shallow formula) rules fits) none.1)
  trees_fit (Deep text ∷ rules) fits none = let no = none.0 in absurd (cc no)

  trees_many : (rules : List RuleSaid) → length (trees_of names rules) ≤ length rules
  trees_many [] = omega arith
  trees_many (Shallow formula ∷ rules) = omega (arith, trees_many rules)
  trees_many (Deep text ∷ rules) = omega (arith, trees_many rules)

  trees_again : (rules : List RuleSaid) → NoneRefused rules
      → map (λ rule. Shallow (formula_with (name_at names) rule)) (trees_of names rules) ≡ rules
  trees_again [] none = refl
  trees_again (Shallow formula ∷ rules) none =
      let here = accepted_again names formula none.0 in
      let later = trees_again rules none.1 in
      λ i. Shallow (here i) ∷ later i
  trees_again (Deep text ∷ rules) none = let no = none.0 in absurd (cc no)

module _ (said : RulesSaid) (are : AreRulesSaid said) (line : ℕ)
    (accepted : refusal_from line said ≡ None) where
  rules_accepted : NoneRefused (names_of said.fields) said.rules
  rules_accepted =
      each_back (λ refusal. refusal ≡ None) (field_refusals [] said.fields)
      (map (rule_refusal (names_of said.fields)) said.rules)
      (none_refused line (line_refusals said) accepted)

  pub accepted_are_rules : AreRules (set_said said)
  accepted_are_rules = record {
    fields = are.fields;
    rules = omega (arith, trees_many (names_of said.fields) said.rules, are.rules);
    each = subst (λ (count : ℕ). All (IsRule count) (trees_of (names_of said.fields) said.rules))
        (length-map said.fields (λ (field : Field). field.name))
        (trees_fit (names_of said.fields) said.rules (rules_fit said.fields said.rules are.each)
        rules_accepted);
  }

  pub accepted_says : said_of_set (set_said said) ≡ said
  accepted_says =
      let rules = trees_again (names_of said.fields) said.rules rules_accepted in
      λ i. record { fields = said.fields; rules = rules i }

-- what a call answers that read a part
pub read_back : (result : Result RuleSet TextError) (said : RulesSaid) (line : ℕ)
    → AreRulesSaid said → IfOk result (λ set. set_of set ≡ set_said said)
    → OnOk result (refusal_from line said ≡ None)
    → IfOk result (λ set. said_of_set (set_of set) ≡ said)
read_back (Ok set) said line are same accepted =
    ap said_of_set same ∙ accepted_says said are line accepted
read_back (Err error) said line are same accepted = tt

pub read_sense : (result : Result RuleSet TextError) (said : RulesSaid) (line : ℕ)
    → AreRulesSaid said → IfOk result (λ set. set_of set ≡ set_said said)
    → OnOk result (refusal_from line said ≡ None) → IfOk result (λ set. AreRules (set_of set))
read_sense (Ok set) said line are same accepted =
    subst AreRules (sym same) (accepted_are_rules said are line accepted)
read_sense (Err error) said line are same accepted = tt
