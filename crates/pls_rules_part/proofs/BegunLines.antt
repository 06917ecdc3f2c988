-- What lines that begin a rules part are, and which line may follow them.
use Rattle.std.proofs.Common.{◌≡◌, ◌∙◌, ℕ, ◌+◌, ◌<◌, ◌≤◌, List, [], ◌∷◌, ◌++◌, map, length, length-append, append_assoc, append-nil, refl, sym, ap, subst, arith}
use Rattle.std.specs.List.{All}
use Rattle.std.proofs.lemmas.List.{map-append, nil_from_length}
use Rattle.std.proofs.lemmas.List.Elements.{All-push}
use Rattle.pls_lines.specs.ListPart.{Begun}
use Rattle.pls_lines.proofs.ListItems.{All-front}
use Rattle.pls_rules.specs.declared.field.Field.{Field}
use Rattle.pls_rule_text.specs.FormulaText.{IsFieldName}
use Rattle.pls_rule_text.specs.RuleText.{IsRuleText, RuleSaid, rule_text}
use Rattle.pls_rules_part.specs.RulesScan.{AreRuleLines, FieldWords, LineWords, RuleBytes, words_of}
use Rattle.pls_rules_part.specs.RulesText.{FitsRuleLine, OfField, OfRule, RuleLine, RulesSaid}
use Rattle.pls_rules_part.specs.inner.Progress.{lines_of}
use Rattle.pls_rules_part.specs.inner.Tally.{fields_in, rules_in}

-- the words of the lines of fields and rules
abbrev pub all_words : List Field → List RuleSaid → List LineWords
all_words fields rules = map words_of (lines_of fields rules)

-- lines that begin those of fields and rules are such lines: with some rules, they have all fields
pub record Told (front : List LineWords) (fields : List Field) (rules : List RuleSaid) : Type 0 where
  pub first : List Field
  pub later : List RuleSaid
  pub more : List RuleLine
  pub is : front ≡ all_words first later
  pub whole : lines_of fields rules ≡ lines_of first later ++ more
  pub few_fields : length first ≤ length fields
  pub few_rules : length later ≤ length rules
  pub some : 1 ≤ length later → length first ≡ length fields

told_of : (front more : List LineWords) (fields : List Field) (rules : List RuleSaid)
    → front ++ more ≡ all_words fields rules → Told front fields rules
told_of [] more fields rules e = record {
  first = [];
  later = [];
  more = lines_of fields rules;
  is = refl;
  whole = refl;
  few_fields = omega arith;
  few_rules = omega arith;
  some = λ none. absurd (omega (arith, none));
}
told_of (line ∷ front) more [] [] e = absurd (cc e)
told_of (line ∷ front) more [] (rule ∷ rules) e =
    let head : line ≡ RuleBytes (rule_text rule) = cc in
    let tail : front ++ more ≡ all_words [] rules = cc in
    let rest = told_of front more [] rules tail in
    let none = nil_from_length rest.first (omega (arith, rest.few_fields)) in
    let is : front ≡ all_words [] rest.later =
    rest.is ∙ ap (λ (first : List Field). all_words first rest.later) none in
    let whole : lines_of [] rules ≡ lines_of [] rest.later ++ rest.more =
    rest.whole ∙ ap (λ (first : List Field). lines_of first rest.later ++ rest.more) none in
    record {
      first = [];
      later = rule ∷ rest.later;
      more = rest.more;
      is = λ i. head i ∷ is i;
      whole = ap (λ (lines : List RuleLine). OfRule rule ∷ lines) whole;
      few_fields = omega arith;
      few_rules = omega (arith, rest.few_rules);
      some = λ any. refl;
    }
told_of (line ∷ front) more (field ∷ fields) rules e =
    let head : line ≡ FieldWords field = cc in
    let tail : front ++ more ≡ all_words fields rules = cc in
    let rest = told_of front more fields rules tail in
    let is = rest.is in
    record {
      first = field ∷ rest.first;
      later = rest.later;
      more = rest.more;
      is = λ i. head i ∷ is i;
      whole = ap (λ (lines : List RuleLine). OfField field ∷ lines) rest.whole;
      few_fields = omega (arith, rest.few_fields);
      few_rules = rest.few_rules;
      some = λ any. omega (arith, rest.some any);
    }

-- how many fields and rules are counted
fields_counted : (fields : List Field) (rules : List RuleSaid)
    → fields_in (all_words fields rules) ≡ length fields
fields_counted [] [] = refl
fields_counted [] (rule ∷ rules) = fields_counted [] rules
fields_counted (field ∷ fields) rules = omega (arith, fields_counted fields rules)

rules_counted : (fields : List Field) (rules : List RuleSaid)
    → rules_in (all_words fields rules) ≡ length rules
rules_counted [] [] = refl
rules_counted [] (rule ∷ rules) = omega (arith, rules_counted [] rules)
rules_counted (field ∷ fields) rules = rules_counted fields rules

-- and with one line more
pub fields_more : (front : List LineWords) (field : Field)
    → fields_in (front ++ FieldWords field ∷ []) ≡ fields_in front + 1
fields_more [] field = refl
fields_more (FieldWords other ∷ front) field = omega (arith, fields_more front field)
fields_more (RuleBytes other ∷ front) field = fields_more front field

pub fields_same : (front : List LineWords) (text : List ℕ)
    → fields_in (front ++ RuleBytes text ∷ []) ≡ fields_in front
fields_same [] text = refl
fields_same (FieldWords other ∷ front) text = omega (arith, fields_same front text)
fields_same (RuleBytes other ∷ front) text = fields_same front text

pub rules_more : (front : List LineWords) (text : List ℕ)
    → rules_in (front ++ RuleBytes text ∷ []) ≡ rules_in front + 1
rules_more [] text = refl
rules_more (FieldWords other ∷ front) text = rules_more front text
rules_more (RuleBytes other ∷ front) text = omega (arith, rules_more front text)

pub rules_same : (front : List LineWords) (field : Field)
    → rules_in (front ++ FieldWords field ∷ []) ≡ rules_in front
rules_same [] field = refl
rules_same (FieldWords other ∷ front) field = rules_same front field
rules_same (RuleBytes other ∷ front) field = omega (arith, rules_same front field)

-- no rule stands before a field
no_field : (front : List LineWords) (field : Field) (rules : List RuleSaid)
    → front ++ FieldWords field ∷ [] ≡ all_words [] rules → ⊥
no_field [] field [] e = absurd (cc e)
no_field [] field (rule ∷ rules) e =
    let head : FieldWords field ≡ RuleBytes (rule_text rule) = cc in absurd (cc head)
no_field (line ∷ front) field [] e = absurd (cc e)
no_field (line ∷ front) field (rule ∷ rules) e = no_field front field rules cc

none_before : (front : List LineWords) (field : Field) (fields : List Field) (rules : List RuleSaid)
    → front ++ FieldWords field ∷ [] ≡ all_words fields rules → length rules ≡ 0
none_before front field [] rules e = absurd (no_field front field rules e)
none_before [] field (other ∷ []) [] e = refl
none_before [] field (other ∷ []) (rule ∷ rules) e =
    let tail : [] ≡ all_words [] (rule ∷ rules) = cc in absurd (cc tail)
none_before [] field (other ∷ next ∷ fields) rules e =
    let tail : [] ≡ all_words (next ∷ fields) rules = cc in absurd (cc tail)
none_before (line ∷ front) field (other ∷ fields) rules e =
    none_before front field fields rules cc

-- lines are those of a part where there are fields
are_by : (lines : List LineWords) (fields : List Field) (rules : List RuleSaid)
    → lines ≡ all_words fields rules → 1 ≤ length fields → length fields ≤ 8 → length rules ≤ 32
    → All FitsRuleLine (lines_of fields rules) → AreRuleLines lines
are_by lines fields rules is some few_fields few_rules each = record {
  said = record { fields = fields; rules = rules };
  are = record { some = some; fields = few_fields; rules = few_rules; each = each };
  is = is;
}

begun_by : (lines : List LineWords) → AreRuleLines lines → Begun AreRuleLines lines
begun_by lines are = record {
  more = [];
  are = subst AreRuleLines (sym (append-nil lines)) are;
}

module _ (front : List LineWords) (begun : Begun AreRuleLines front) where
  abbrev whole : RulesSaid
  whole = begun.are.said

  front_told : Told front whole.fields whole.rules
  front_told = told_of front begun.more whole.fields whole.rules begun.are.is

  each : All FitsRuleLine (lines_of front_told.first front_told.later)
  each = All-front FitsRuleLine (lines_of front_told.first front_told.later) front_told.more
      (subst (λ (lines : List RuleLine). All FitsRuleLine lines) front_told.whole begun.are.are.each)

  fields_are : fields_in front ≡ length front_told.first
  fields_are = ap fields_in front_told.is ∙ fields_counted front_told.first front_told.later

  rules_are : rules_in front ≡ length front_told.later
  rules_are = ap rules_in front_told.is ∙ rules_counted front_told.first front_told.later

  pub fields_within : fields_in front ≤ 8
  fields_within = omega (arith, fields_are, front_told.few_fields, begun.are.are.fields)

  pub rules_within : rules_in front ≤ 32
  rules_within = omega (arith, rules_are, front_told.few_rules, begun.are.are.rules)

  -- where some rule was counted, some field was
  pub fields_first : 1 ≤ rules_in front → 1 ≤ fields_in front
  fields_first any =
      omega (arith, front_told.some (omega (arith, any, rules_are)), fields_are, begun.are.are.some)

  -- a field may follow where no rule was counted and fewer than 8 fields were
  pub field_follows : (field : Field) → IsFieldName field.name → rules_in front ≡ 0
      → fields_in front < 8 → Begun AreRuleLines (front ++ FieldWords field ∷ [])
  field_follows field fits first room =
      let none = nil_from_length front_told.later (sym rules_are ∙ first) in
      let same : lines_of front_told.first front_told.later ≡ map OfField front_told.first =
      ap (λ (rules : List RuleSaid). lines_of front_told.first rules) none
      ∙ append-nil (map OfField front_told.first) in
      let lines : lines_of front_told.first front_told.later ++ OfField field ∷ []
      ≡ lines_of (front_told.first ++ field ∷ []) [] =
      ap (λ (lines : List RuleLine). lines ++ OfField field ∷ []) same
      ∙ sym (map-append OfField front_told.first (field ∷ []))
      ∙ sym (append-nil (map OfField (front_told.first ++ field ∷ []))) in
      let is : front ++ FieldWords field ∷ [] ≡ all_words (front_told.first ++ field ∷ []) [] =
      ap (λ (lines : List LineWords). lines ++ FieldWords field ∷ []) front_told.is
      ∙ sym (map-append words_of (lines_of front_told.first front_told.later) (OfField field ∷ []))
      ∙ ap (map words_of) lines in
      let many = length-append front_told.first (field ∷ []) in
      begun_by (front ++ FieldWords field ∷ [])
      (are_by (front ++ FieldWords field ∷ []) (front_told.first ++ field ∷ []) [] is
      (omega (arith, many)) (omega (arith, many, room, fields_are)) (omega arith)
      (subst (λ (lines : List RuleLine). All FitsRuleLine lines) lines
      (All-push FitsRuleLine (lines_of front_told.first front_told.later) (OfField field) each fits)))

  -- a rule may follow where some field was counted and fewer than 32 rules were
  pub rule_follows : (text : List ℕ) → IsRuleText text → 1 ≤ fields_in front → rules_in front < 32
      → Begun AreRuleLines (front ++ RuleBytes text ∷ [])
  rule_follows text fits some room =
      let rule = fits.rule in
      let lines : lines_of front_told.first front_told.later ++ OfRule rule ∷ []
      ≡ lines_of front_told.first (front_told.later ++ rule ∷ []) =
      append_assoc (map OfField front_told.first) (map OfRule front_told.later) (OfRule rule ∷ [])
      ∙ ap (λ (lines : List RuleLine). map OfField front_told.first ++ lines)
      (sym (map-append OfRule front_told.later (rule ∷ []))) in
      let is : front ++ RuleBytes text ∷ [] ≡ all_words front_told.first (front_told.later ++ rule ∷ []) =
      ap (λ (lines : List LineWords). lines ++ RuleBytes text ∷ []) front_told.is
      ∙ ap (λ (text : List ℕ). all_words front_told.first front_told.later ++ RuleBytes text ∷ []) fits.written
      ∙ sym (map-append words_of (lines_of front_told.first front_told.later) (OfRule rule ∷ []))
      ∙ ap (map words_of) lines in
      let many = length-append front_told.later (rule ∷ []) in
      begun_by (front ++ RuleBytes text ∷ [])
      (are_by (front ++ RuleBytes text ∷ []) front_told.first (front_told.later ++ rule ∷ []) is
      (omega (arith, some, fields_are)) (omega (arith, front_told.few_fields, begun.are.are.fields))
      (omega (arith, many, room, rules_are))
      (subst (λ (lines : List RuleLine). All FitsRuleLine lines) lines
      (All-push FitsRuleLine (lines_of front_told.first front_told.later) (OfRule rule) each fits.fits)))

  -- they are all where some field was counted
  pub whole_with : 1 ≤ fields_in front → AreRuleLines front
  whole_with some =
      are_by front front_told.first front_told.later front_told.is (omega (arith, some, fields_are))
      (omega (arith, front_told.few_fields, begun.are.are.fields))
      (omega (arith, front_told.few_rules, begun.are.are.rules)) each

-- a field follows only where no rule was counted and fewer than 8 fields were
pub field_needs : (front : List LineWords) (field : Field)
    → Begun AreRuleLines (front ++ FieldWords field ∷ [])
    → (rules_in front ≡ 0) × (fields_in front < 8)
field_needs front field begun =
    let all = front_told (front ++ FieldWords field ∷ []) begun in
    let none = none_before front field all.first all.later all.is in
    let fields = fields_within (front ++ FieldWords field ∷ []) begun in
    let rules = rules_are (front ++ FieldWords field ∷ []) begun in (
      omega (arith, none, rules, rules_same front field),
      omega (arith, fields, fields_more front field),
    )

-- and a rule only where some field was counted and fewer than 32 rules were
pub rule_needs : (front : List LineWords) (text : List ℕ)
    → Begun AreRuleLines (front ++ RuleBytes text ∷ [])
    → (1 ≤ fields_in front) × (rules_in front < 32)
rule_needs front text begun =
    let rules = rules_within (front ++ RuleBytes text ∷ []) begun in
    let more = rules_more front text in
    let some = fields_first (front ++ RuleBytes text ∷ []) begun (omega (arith, more)) in
    (omega (arith, some, fields_same front text), omega (arith, rules, more))

-- the lines of a part have some field
pub whole_needs : (lines : List LineWords) → AreRuleLines lines → 1 ≤ fields_in lines
whole_needs lines are =
    let fields : fields_in lines ≡ length are.said.fields =
    ap fields_in are.is ∙ fields_counted are.said.fields are.said.rules in
    omega (arith, fields, are.are.some)
