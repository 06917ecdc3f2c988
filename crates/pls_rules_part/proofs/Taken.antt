-- What a tally does with a line more.
use Rattle.std.proofs.Common.{◌≡◌, ◌∙◌, ◌+◌, ◌<◌, ◌≤◌, Bool, true, false, List, [], ◌∷◌, ◌++◌, ap, sym, arith}
use Rattle.std.specs.Bool.{OnFalse, OnTrue}
use Rattle.pls_lines.specs.ListPart.{Begun}
use Rattle.pls_rules_part.specs.RulesScan.{AreRuleLines, FieldWords, FitsWords, LineWords, RuleBytes}
use Rattle.pls_rules_part.specs.declared.rules_tally.RulesTally.{RulesTally}
use Rattle.pls_rules_part.specs.inner.Tally.{fields_in, is_field, rules_in, rules_tally}
use Rattle.pls_rules_part.proofs.BegunLines.{field_follows, field_needs, fields_more, fields_same, rule_follows, rule_needs, rules_more, rules_same}

-- what is asked of a tally that took a line, or did not
abbrev pub Begins : RulesTally → LineWords → Type 0
Begins old item =
    (front : List LineWords) → Begun AreRuleLines front → old ≡ rules_tally front
    → Begun AreRuleLines (front ++ item ∷ [])

abbrev pub Counts : RulesTally → RulesTally → LineWords → Type 0
Counts old new item =
    (front : List LineWords) → Begun AreRuleLines front → old ≡ rules_tally front
    → new ≡ rules_tally (front ++ item ∷ [])

abbrev pub Refuses : RulesTally → LineWords → Type 0
Refuses old item =
    (front : List LineWords) → Begun AreRuleLines front → old ≡ rules_tally front
    → Begun AreRuleLines (front ++ item ∷ []) → ⊥

fields_of : (old : RulesTally) (front : List LineWords) → old ≡ rules_tally front
    → old.fields ≡ fields_in front
fields_of old front is = ap (λ (tally : RulesTally). tally.fields) is

rules_of : (old : RulesTally) (front : List LineWords) → old ≡ rules_tally front
    → old.rules ≡ rules_in front
rules_of old front is = ap (λ (tally : RulesTally). tally.rules) is

both_counts : (new : RulesTally) (lines : List LineWords) → new.fields ≡ fields_in lines
    → new.rules ≡ rules_in lines → new ≡ rules_tally lines
both_counts new lines fields rules = λ i. record { fields = fields i; rules = rules i }

-- a field
pub field_begins : (b : Bool) (old : RulesTally) (item : LineWords) → true ≡ is_field item
    → FitsWords item → OnTrue b (old.rules ≡ 0) → OnTrue b (old.fields < 8)
    → OnTrue b (Begins old item)
field_begins false old item is fits first room = tt
field_begins true old (RuleBytes text) is fits first room = absurd (cc is)
field_begins true old (FieldWords field) is fits first room = λ front begun counted.
    field_follows front begun field fits
    (sym (rules_of old front counted) ∙ first)
    (omega (arith, room, fields_of old front counted))

pub field_counts : (b : Bool) (old new : RulesTally) (item : LineWords) → true ≡ is_field item
    → OnTrue b (new.fields ≡ old.fields + 1) → OnTrue b (new.rules ≡ old.rules)
    → OnTrue b (Counts old new item)
field_counts false old new item is fields rules = tt
field_counts true old new (RuleBytes text) is fields rules = absurd (cc is)
field_counts true old new (FieldWords field) is fields rules = λ front begun counted.
    both_counts new (front ++ FieldWords field ∷ [])
    (omega (arith, fields, fields_of old front counted, fields_more front field))
    (rules ∙ rules_of old front counted ∙ sym (rules_same front field))

pub field_refused : (b : Bool) (old : RulesTally) (item : LineWords) → true ≡ is_field item
    → OnFalse b (old.rules ≡ 0 → old.fields < 8 → ⊥) → OnFalse b (Refuses old item)
field_refused true old item is other = tt
field_refused false old (RuleBytes text) is other = absurd (cc is)
field_refused false old (FieldWords field) is other = λ front begun counted more.
    let needs = field_needs front field more in
    other (rules_of old front counted ∙ needs.0)
    (omega (arith, needs.1, fields_of old front counted))

-- a rule
pub rule_begins : (b : Bool) (old : RulesTally) (item : LineWords) → false ≡ is_field item
    → FitsWords item → OnTrue b (1 ≤ old.fields) → OnTrue b (old.rules < 32)
    → OnTrue b (Begins old item)
rule_begins false old item is fits some room = tt
rule_begins true old (FieldWords field) is fits some room = absurd (cc is)
rule_begins true old (RuleBytes text) is fits some room = λ front begun counted.
    rule_follows front begun text fits
    (omega (arith, some, fields_of old front counted))
    (omega (arith, room, rules_of old front counted))

pub rule_counts : (b : Bool) (old new : RulesTally) (item : LineWords) → false ≡ is_field item
    → OnTrue b (new.fields ≡ old.fields) → OnTrue b (new.rules ≡ old.rules + 1)
    → OnTrue b (Counts old new item)
rule_counts false old new item is fields rules = tt
rule_counts true old new (FieldWords field) is fields rules = absurd (cc is)
rule_counts true old new (RuleBytes text) is fields rules = λ front begun counted.
    both_counts new (front ++ RuleBytes text ∷ [])
    (fields ∙ fields_of old front counted ∙ sym (fields_same front text))
    (omega (arith, rules, rules_of old front counted, rules_more front text))

pub rule_refused : (b : Bool) (old : RulesTally) (item : LineWords) → false ≡ is_field item
    → OnFalse b (1 ≤ old.fields → old.rules < 32 → ⊥) → OnFalse b (Refuses old item)
rule_refused true old item is other = tt
rule_refused false old (FieldWords field) is other = absurd (cc is)
rule_refused false old (RuleBytes text) is other = λ front begun counted more.
    let needs = rule_needs front text more in
    other (omega (arith, needs.0, fields_of old front counted))
    (omega (arith, needs.1, rules_of old front counted))
