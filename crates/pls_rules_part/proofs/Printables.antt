-- What a printable set says is a part, is not refused, and says the set.
use Rattle.std.proofs.Common.{◌≡◌, ◌∙◌, ℕ, suc, ◌+◌, ◌≤◌, false, All, List, [], ◌∷◌, map, length, Option, Some, None, refl, sym, subst, arith}
use Rattle.std.specs.List.{AllByRecursion}
use Rattle.std.proofs.lemmas.List.{length-map}
use Rattle.std.proofs.lemmas.List.Elements.{All-append, All-cons, All-head, All-nil, All-tail}
use Rattle.pls_streams.specs.declared.text_error.TextError.{TextError}
use Rattle.pls_streams.specs.declared.text_error.TextError.TheVariants.{Form, Limit, NoMemory, Sense}
use Rattle.pls_lines.specs.Fault.{NamesFirstFault}
use Rattle.pls_lines.specs.laws.Cuts.{each-append}
use Rattle.pls_configuration.specs.Configuration.{first_of}
use Rattle.pls_rules.specs.Formula.{Formula}
use Rattle.pls_rules.specs.RuleSet.{IsRule, Rules, rules_of}
use Rattle.pls_rules.specs.declared.field.Field.{Field}
use Rattle.pls_rule_text.specs.FieldNames.{NamesDiffer, name_at, names_of}
use Rattle.pls_rule_text.specs.FormulaText.{IsFieldName, formula_text}
use Rattle.pls_rule_text.specs.RuleText.{RuleSaid, Shallow, formula_with, is_among, rule_refusal}
use Rattle.pls_rule_text.specs.laws.NameLaws.{other_word}
use Rattle.pls_rule_text.specs.laws.PrintLaws.{named_again, named_fits, named_refusal}
use Rattle.pls_rules_part.specs.Printable.{IsPrintable}
use Rattle.pls_rules_part.specs.Refusal.{SaysTextRefusal}
use Rattle.pls_rules_part.specs.RulesScan.{IsRulesPart, TellsRules}
use Rattle.pls_rules_part.specs.RulesText.{AreRulesSaid, FitsRuleLine, OfField, OfRule, field_refusals, line_refusals, refusals_from, rules_lines, rules_text, said_of_set, set_said}
use Rattle.pls_rules_part.specs.inner.Adding.{refusal_from}
use Rattle.pls_rules_part.specs.inner.Progress.{trees_of}
use Rattle.pls_rules_part.proofs.RulesParts.{are_rules_part}

abbrev NoneOf : List (Option ℕ) → Type 0
NoneOf refusals = AllByRecursion (λ refusal. refusal ≡ None) refusals

first_none : (line : ℕ) (refusals : List (Option ℕ)) → NoneOf refusals
    → first_of (refusals_from line refusals) ≡ None
first_none line [] none = refl
first_none line (None ∷ others) none = first_none (line + 1) others none.1
first_none line (Some number ∷ others) none = let no = none.0 in absurd (cc no)

-- fields with other names than those before
fields_accepted : (seen : List (List ℕ)) (fields : List Field)
    → All (λ name. is_among seen name ≡ false) (names_of fields) → NamesDiffer (names_of fields)
    → NoneOf (field_refusals seen fields)
fields_accepted seen [] other distinct = tt
fields_accepted seen (field ∷ fields) other distinct =
    let here = All-head (λ name. is_among seen name ≡ false) field.name (names_of fields) other in
    let later = All-tail (λ name. is_among seen name ≡ false) field.name (names_of fields) other in (
      rw here refl,
      fields_accepted (field.name ∷ seen) fields
          (λ k d within. rw (
            other_word field.name _ (distinct 0 (suc k) d (omega arith) (omega (arith, within))),
            later k d within,
          ) refl)
          (λ i j d less within.
          distinct (suc i) (suc j) d (omega (arith, less)) (omega (arith, within))),
    )

field_lines : (fields : List Field) → All IsFieldName (names_of fields)
    → All FitsRuleLine (map OfField fields)
field_lines [] names = All-nil FitsRuleLine
field_lines (field ∷ fields) names =
    All-cons FitsRuleLine (OfField field) (map OfField fields)
    (All-head IsFieldName field.name (names_of fields) names)
    (field_lines fields (All-tail IsFieldName field.name (names_of fields) names))

module _ (names : List (List ℕ)) (distinct : NamesDiffer names) (are : All IsFieldName names) where
  abbrev said : List (Formula ℕ) → List RuleSaid
  said rules = map (λ rule. Shallow (formula_with (name_at names) rule)) rules

  abbrev IsShort : Formula ℕ → Type 0
  IsShort rule = length (formula_text (name_at names) rule) ≤ 4096

  rule_lines_fit : (rules : List (Formula ℕ)) → All (IsRule (length names)) rules → All IsShort rules
      → All FitsRuleLine (map OfRule (said rules))
  rule_lines_fit [] fits short = All-nil FitsRuleLine
  rule_lines_fit (rule ∷ rules) fits short =
      All-cons FitsRuleLine (OfRule (Shallow (formula_with (name_at names) rule)))
      (map OfRule (said rules))
      (named_fits names are rule (All-head (IsRule (length names)) rule rules fits)
      (All-head IsShort rule rules short))
      (rule_lines_fit rules (All-tail (IsRule (length names)) rule rules fits)
      (All-tail IsShort rule rules short))

  rules_accepted : (rules : List (Formula ℕ)) → All (IsRule (length names)) rules
      → NoneOf (map (rule_refusal names) (said rules))
  rules_accepted [] fits = tt
  rules_accepted (rule ∷ rules) fits = (
    named_refusal names distinct rule (All-head (IsRule (length names)) rule rules fits),
    rules_accepted rules (All-tail (IsRule (length names)) rule rules fits),
  )

  trees_said : (rules : List (Formula ℕ)) → All (IsRule (length names)) rules
      → trees_of names (said rules) ≡ rules
  trees_said [] fits = refl
  trees_said (rule ∷ rules) fits =
      let here =
      named_again names distinct false rule
      (All-head (IsRule (length names)) rule rules fits).fits in
      let later = trees_said rules (All-tail (IsRule (length names)) rule rules fits) in
      λ i. here i ∷ later i

module _ (set : Rules) (printable : IsPrintable set) where
  abbrev names : List (List ℕ)
  names = names_of set.fields

  rules_are : All (IsRule (length names)) set.rules
  rules_are = subst (λ (count : ℕ). All (IsRule count) set.rules)
      (sym (length-map set.fields (λ (field : Field). field.name))) printable.are.each

  pub printable_said : AreRulesSaid (said_of_set set)
  printable_said = record {
    some = printable.some;
    fields = printable.are.fields;
    rules = omega (
      arith,
      length-map set.rules
          (λ (rule : Formula ℕ). Shallow (formula_with (name_at names) rule)),
      printable.are.rules,
    );
    each = All-append FitsRuleLine (map OfField set.fields) (map OfRule (said_of_set set).rules)
        (field_lines set.fields printable.names)
        (rule_lines_fit names printable.distinct printable.names set.rules rules_are
        printable.short);
  }

  pub printable_accepted : (line : ℕ) → refusal_from line (said_of_set set) ≡ None
  printable_accepted line =
      first_none line (line_refusals (said_of_set set))
      (each-append (λ refusal. refusal ≡ None) (field_refusals [] set.fields)
      (map (rule_refusal names) (said_of_set set).rules)
      (fields_accepted [] set.fields (λ k d within. refl) printable.distinct)
      (rules_accepted names printable.distinct printable.names set.rules rules_are))

  pub printable_set : set_said (said_of_set set) ≡ set
  printable_set =
      let trees = trees_said names printable.distinct printable.names set.rules rules_are in
      λ i. rules_of set.fields (trees i)

  pub tells_printed : (text : List ℕ) → text ≡ rules_text (said_of_set set)
      → TellsRules text (said_of_set set)
  tells_printed text is = record { are = printable_said; is = is }

  -- a text that is printed has no faulty line
  pub printed_whole : (text : List ℕ) → text ≡ rules_text (said_of_set set) → (error : TextError)
      → NamesFirstFault IsRulesPart text error → ⊥
  printed_whole text is error fault =
      fault.2.2.none (rules_lines (said_of_set set))
      (are_rules_part (said_of_set set) printable_said) is

  -- and no refused one
  pub printed_memory : (line : ℕ) (error : TextError)
      → SaysTextRefusal (refusal_from line (said_of_set set)) error → error ≡ NoMemory
  printed_memory line (Form k) is = absurd (cc (sym (printable_accepted line) ∙ is))
  printed_memory line (Limit quantity) is = absurd (cc (sym (printable_accepted line) ∙ is))
  printed_memory line (Sense number place) is = absurd (cc (sym (printable_accepted line) ∙ is))
  printed_memory line NoMemory is = refl
