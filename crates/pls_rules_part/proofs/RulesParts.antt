-- The parts of rule sets among the lines of an input.
use Rattle.std.proofs.Common.{◌≡◌, ◌∙◌, ℕ, All, List, [], ◌∷◌, ◌++◌, map, codes, append-nil, refl, sym, ap, subst}
use Rattle.std.proofs.lemmas.List.Elements.{All-head, All-tail}
use Rattle.pls_lines.specs.Frame.{part_lines}
use Rattle.pls_lines.specs.LineKind.{Always, alone}
use Rattle.pls_lines.specs.Text.{text_of}
use Rattle.pls_lines.specs.laws.ListLaws.{is_list_part}
use Rattle.pls_lines.proofs.ListRead.{one_list}
use Rattle.pls_rules.specs.declared.field.Field.{Field}
use Rattle.pls_rule_text.specs.RuleText.{RuleSaid, rule_text}
use Rattle.pls_rule_text.specs.laws.RuleLaws.{one_rule}
use Rattle.pls_rules_part.specs.RulesScan.{AreRuleLines, FieldWords, FitsWords, IsRulesPart, RuleBytes, TellsRules, words_line, words_of}
use Rattle.pls_rules_part.specs.RulesText.{AreRulesSaid, FitsRuleLine, OfField, OfRule, RulesSaid, rule_lines, rules_lines, rules_text}
use Rattle.pls_rules_part.specs.inner.Progress.{lines_of}
use Rattle.pls_rules_part.specs.laws.LineLaws.{lines_of_rules, rules_headings, rules_list}
use Rattle.pls_rules_part.proofs.Told.{part_written}

-- the lines of fields and rules that are allowed are a part
pub are_rules_part : (said : RulesSaid) → AreRulesSaid said → IsRulesPart (rules_lines said)
are_rules_part said are =
    subst IsRulesPart (part_written (map words_of (rule_lines said)) said refl)
    (is_list_part Always (alone (codes "rules")) FitsWords words_line AreRuleLines rules_headings
    lines_of_rules rules_list rules_list.heading (map words_of (rule_lines said)) tt
    (record { said = said; are = are; is = refl }))

-- and each part is such lines
pub rules_from_part : (lines : List (List ℕ)) → IsRulesPart lines
    → (said : RulesSaid) × AreRulesSaid said × (lines ≡ rules_lines said)
rules_from_part lines is =
    let said = is.fits.are.said in (
      said,
      is.fits.are.are,
      is.is ∙ ap (λ (heading : List ℕ). part_lines heading is.body) is.headed.is
          ∙ ap (part_lines (codes "rules")) is.fits.is
          ∙ part_written is.fits.items said is.fits.are.is,
    )

-- words tell fields and rules
record OneSaid (fields others : List Field) (rules more : List RuleSaid) : Type 0 where
  same_fields : fields ≡ others
  same_rules : rules ≡ more

one_said : (fields others : List Field) (rules more : List RuleSaid)
    → All FitsRuleLine (lines_of fields rules) → All FitsRuleLine (lines_of others more)
    → map words_of (lines_of fields rules) ≡ map words_of (lines_of others more)
    → OneSaid fields others rules more
one_said [] [] [] [] p q e = record { same_fields = refl; same_rules = refl }
one_said [] [] [] (rule ∷ more) p q e = absurd (cc e)
one_said [] [] (rule ∷ rules) [] p q e = absurd (cc e)
one_said [] [] (rule ∷ rules) (other ∷ more) p q e =
    let head : RuleBytes (rule_text rule) ≡ RuleBytes (rule_text other) = cc in
    let text : rule_text rule ≡ rule_text other = cc in
    let tail : map words_of (lines_of [] rules) ≡ map words_of (lines_of [] more) = cc in
    let same =
    one_rule rule other (All-head FitsRuleLine (OfRule rule) (lines_of [] rules) p)
    (All-head FitsRuleLine (OfRule other) (lines_of [] more) q) text in
    let rest =
    one_said [] [] rules more (All-tail FitsRuleLine (OfRule rule) (lines_of [] rules) p)
    (All-tail FitsRuleLine (OfRule other) (lines_of [] more) q) tail in
    let others = rest.same_rules in
    record { same_fields = refl; same_rules = λ i. same i ∷ others i }
one_said [] (other ∷ others) [] more p q e = absurd (cc e)
one_said [] (other ∷ others) (rule ∷ rules) more p q e =
    let head : RuleBytes (rule_text rule) ≡ FieldWords other = cc in absurd (cc head)
one_said (field ∷ fields) [] rules [] p q e = absurd (cc e)
one_said (field ∷ fields) [] rules (rule ∷ more) p q e =
    let head : FieldWords field ≡ RuleBytes (rule_text rule) = cc in absurd (cc head)
one_said (field ∷ fields) (other ∷ others) rules more p q e =
    let head : FieldWords field ≡ FieldWords other = cc in
    let same : field ≡ other = cc in
    let tail : map words_of (lines_of fields rules) ≡ map words_of (lines_of others more) = cc in
    let rest =
    one_said fields others rules more
    (All-tail FitsRuleLine (OfField field) (lines_of fields rules) p)
    (All-tail FitsRuleLine (OfField other) (lines_of others more) q) tail in
    let later = rest.same_fields in
    record { same_fields = λ i. same i ∷ later i; same_rules = rest.same_rules }

-- two parts at the front of one text are one
pub one_rules : (a b : RulesSaid) (x y : List ℕ) → AreRulesSaid a → AreRulesSaid b
    → text_of (rules_lines a) ++ x ≡ text_of (rules_lines b) ++ y → (a ≡ b) × (x ≡ y)
one_rules a b x y p q e =
    let words_a = map words_of (rule_lines a) in
    let words_b = map words_of (rule_lines b) in
    let one =
    one_list Always (alone (codes "rules")) FitsWords words_line AreRuleLines rules_headings
    lines_of_rules rules_list rules_list.heading rules_list.heading words_a words_b x y tt tt
    (record { said = a; are = p; is = refl }) (record { said = b; are = q; is = refl })
    (ap (λ lines. text_of lines ++ x) (part_written words_a a refl) ∙ e
    ∙ ap (λ lines. text_of lines ++ y) (sym (part_written words_b b refl))) in
    let said = one_said a.fields b.fields a.rules b.rules p.each q.each one.items in
    let fields = said.same_fields in
    let rules = said.same_rules in
    (λ i. record { fields = fields i; rules = rules i }, one.behind)

-- so a text says one rule set
pub one_told : (text : List ℕ) (a b : RulesSaid) → TellsRules text a → TellsRules text b → a ≡ b
one_told text a b p q =
    (one_rules a b [] [] p.are q.are
    (append-nil (rules_text a) ∙ sym p.is ∙ q.is ∙ sym (append-nil (rules_text b)))).0
