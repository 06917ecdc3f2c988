-- A rule set, of which the lines are added one after another.
use Rattle.std.proofs.Common.{◌≡◌, ◌∙◌, ℕ, ◌+◌, ◌≤◌, ◌||◌, Bool, true, false, All, List, [], ◌∷◌, ◌++◌, map, length, length-append, append_assoc, append-nil, Option, Some, None, if◌then◌else◌, sym, ap, subst, arith}
use Rattle.std.specs.Str.{bytes_eq}
use Rattle.std.proofs.lemmas.List.{map-append}
use Rattle.std.proofs.lemmas.List.Elements.{All-head, All-tail}
use Rattle.std.proofs.lemmas.List.Folds.{list_any-append}
use Rattle.pls_streams.specs.declared.refusal_number.TheConstants.{FIELD}
use Rattle.pls_streams.specs.declared.text_error.TextError.{TextError}
use Rattle.pls_streams.specs.declared.text_error.TextError.TheVariants.{Form, Limit, NoMemory, Sense}
use Rattle.pls_lines.specs.LineKind.{Says}
use Rattle.pls_lines.specs.Lines.{Left, Passes, Stands}
use Rattle.pls_lines.specs.ListPart.{NextItem, Remains}
use Rattle.pls_lines.proofs.ListRead.{none_left, one_less}
use Rattle.pls_configuration.specs.Configuration.{first_of}
use Rattle.pls_rules.specs.Formula.{Formula}
use Rattle.pls_rules.specs.HeldTrees.{formula_of, set_of}
use Rattle.pls_rules.specs.RuleSet.{rules_of}
use Rattle.pls_rules.specs.declared.expr.BoolExpr.{BoolExpr}
use Rattle.pls_rules.specs.declared.field.Field.{Field}
use Rattle.pls_rules.specs.declared.rule_set.RuleSet.{RuleSet}
use Rattle.pls_rule_text.specs.FieldNames.{names_of}
use Rattle.pls_rule_text.specs.Refused.{IsTreeOf}
use Rattle.pls_rule_text.specs.RuleText.{Deep, RuleSaid, Shallow, is_among, rule_refusal}
use Rattle.pls_rules_part.specs.Refusal.{SaysTextRefusal}
use Rattle.pls_rules_part.specs.RulesScan.{FitsWords, LineWords, words_line, words_of}
use Rattle.pls_rules_part.specs.RulesText.{FitsRuleLine, OfField, OfRule, RuleLine, RulesSaid, field_refusals, refusals_from, set_said}
use Rattle.pls_rules_part.specs.inner.Adding.{AddsField, AddsLine, AddsRule, at_line, line_refusal}
use Rattle.pls_rules_part.specs.inner.Progress.{Progress, lines_of, trees_of}
use Rattle.pls_rules_part.specs.laws.LineLaws.{lines_of_rules}

-- the first of the refusals that are left
refused_first : (line : ℕ) (refusal : Option ℕ) (others : List (Option ℕ)) (whole : Option TextError)
    (error : TextError) → whole ≡ first_of (refusals_from line (refusal ∷ others))
    → SaysTextRefusal (at_line line refusal) error → SaysTextRefusal whole error
refused_first line None others whole (Form k) is at = absurd (cc at)
refused_first line None others whole (Limit quantity) is at = absurd (cc at)
refused_first line None others whole (Sense number place) is at = absurd (cc at)
refused_first line None others whole NoMemory is at = tt
refused_first line (Some number) others whole (Form k) is at = is ∙ at
refused_first line (Some number) others whole (Limit quantity) is at = is ∙ at
refused_first line (Some number) others whole (Sense other place) is at = is ∙ at
refused_first line (Some number) others whole NoMemory is at = tt

-- a line that is not refused leaves the others
refused_later : (line next : ℕ) (refusal : Option ℕ) (others : List (Option ℕ))
    (whole : Option TextError) → whole ≡ first_of (refusals_from line (refusal ∷ others))
    → refusal ≡ None → next ≡ line + 1 → whole ≡ first_of (refusals_from next others)
refused_later line next refusal others whole is none after =
    is ∙ ap (λ (refusal : Option ℕ). first_of (refusals_from line (refusal ∷ others))) none
    ∙ ap (λ (n : ℕ). first_of (refusals_from n others)) (sym after)

-- a name is among some and one more
among_more : (names : List (List ℕ)) (seen : List (List ℕ)) (more name : List ℕ)
    → is_among seen name ≡ is_among names name
    → is_among (more ∷ seen) name ≡ is_among (names ++ more ∷ []) name
among_more names seen more name same =
    either (bytes_eq more name) (is_among seen name) (is_among names name)
    (is_among (names ++ more ∷ []) name) same
    (list_any-append (λ other. bytes_eq other name) names (more ∷ []))
  where
    either : (here : Bool) (seen before both : Bool) → seen ≡ before
        → both ≡ (before || (here || false)) → (here || seen) ≡ both
    either true seen true both same is = sym is
    either true seen false both same is = sym is
    either false seen true both same is = same ∙ sym is
    either false seen false both same is = same ∙ sym is

module _ (said : RulesSaid) (refusal : Option TextError) (old : Left) (set : RuleSet)
    (progress : Progress said refusal old set) where
  abbrev names : List (List ℕ)
  names = names_of said.fields

  -- there are no more fields than the part says
  pub fields_within : length set.fields.items ≤ length said.fields
  fields_within =
      omega (arith, ap length progress.fields_are, length-append set.fields.items progress.fields)

  -- where no line is left the set says it all
  pub progress_end : (Stands (Says FitsWords words_line) old.rest → ⊥)
      → (set_of set ≡ set_said said) × (refusal ≡ None)
  progress_end absent =
      by progress.fields progress.rules
      (none_left FitsWords words_line lines_of_rules old.rest
      (map words_of (lines_of progress.fields progress.rules)) absent progress.remains)
      progress.fields_are progress.trees progress.later
    where
      by : (fields : List Field) (rules : List RuleSaid) → map words_of (lines_of fields rules) ≡ []
          → said.fields ≡ set.fields.items ++ fields
          → map formula_of set.rules.items ++ trees_of names rules ≡ trees_of names said.rules
          → refusal ≡ first_of (refusals_from old.number
          (field_refusals progress.seen fields ++ map (rule_refusal names) rules))
          → (set_of set ≡ set_said said) × (refusal ≡ None)
      by [] [] none fields_are trees later =
          let fields : set.fields.items ≡ said.fields =
          sym (fields_are ∙ append-nil set.fields.items) in
          let rules : map formula_of set.rules.items ≡ trees_of names said.rules =
          sym (append-nil (map formula_of set.rules.items)) ∙ trees in
          (λ i. rules_of (fields i) (rules i), later)
      by [] (rule ∷ rules) none fields_are trees later = absurd (cc none)
      by (field ∷ fields) rules none fields_are trees later = absurd (cc none)

  -- the lines that are left are this one and others
  record OneLine (fields : List Field) (rules : List RuleSaid) (new : Left)
      (words : LineWords) : Type 0 where
    fits : All FitsRuleLine (lines_of fields rules)
    fields_are : said.fields ≡ set.fields.items ++ fields
    trees : map formula_of set.rules.items ++ trees_of names rules ≡ trees_of names said.rules
    later : refusal ≡ first_of (refusals_from old.number
        (field_refusals progress.seen fields ++ map (rule_refusal names) rules))
    next : NextItem FitsWords words_line (map words_of (lines_of fields rules)) words new.rest
    number : new.number ≡ old.number + 1

  one_line : (new : Left) (words : LineWords) → FitsWords words
      → Passes old new (words_line words ∷ [])
      → OneLine progress.fields progress.rules new words
  one_line new words fits passes = record {
    fits = progress.fits;
    fields_are = progress.fields_are;
    trees = progress.trees;
    later = progress.later;
    next = one_less FitsWords words_line lines_of_rules old new words
        (map words_of (lines_of progress.fields progress.rules)) fits passes progress.remains;
    number = passes.number;
  }

  -- behind all fields their names are those of the part
  field_names : said.fields ≡ set.fields.items ++ [] → names_of set.fields.items ≡ names
  field_names are = ap names_of (sym (are ∙ append-nil set.fields.items))

  -- the names so far, with one more
  seen_more : (after : RuleSet) (field : Field) → AddsField set after field → (name : List ℕ)
      → is_among (field.name ∷ progress.seen) name ≡ is_among (names_of after.fields.items) name
  seen_more after field adds name =
      among_more (names_of set.fields.items) progress.seen field.name name (progress.seen_are name)
      ∙ ap (λ (names : List (List ℕ)). is_among names name)
      (sym (ap names_of adds.fields
      ∙ map-append (λ (field : Field). field.name) set.fields.items (field ∷ [])))

  -- a field more
  field_added : (field : Field) (fields : List Field) (rules : List RuleSaid) (new : Left)
      (words : LineWords) (after : RuleSet) → OneLine (field ∷ fields) rules new words
      → AddsField set after field
      → line_refusal (names_of set.fields.items) (OfField field) ≡ None
      → Progress said refusal new after
  field_added field fields rules new words after one adds none =
      let are = one.next.are in
      let more : one.next.more ≡ map words_of (lines_of fields rules) = cc in
      let here : (if is_among progress.seen field.name then Some FIELD else None) ≡ None =
      ap (λ (known : Bool). if known then Some FIELD else None) (progress.seen_are field.name)
      ∙ none in
      record {
        fields = fields;
        rules = rules;
        seen = field.name ∷ progress.seen;
        seen_are = seen_more after field adds;
        fields_are = one.fields_are ∙ sym (append_assoc set.fields.items (field ∷ []) fields)
            ∙ ap (λ (first : List Field). first ++ fields) (sym adds.fields);
        trees = ap (λ (held : List BoolExpr). map formula_of held ++ trees_of names rules) adds.rules
            ∙ one.trees;
        fits = All-tail FitsRuleLine (OfField field) (lines_of fields rules) one.fits;
        remains = subst (λ (items : List LineWords). Remains FitsWords words_line new.rest items) more
            one.next.remains;
        later = refused_later old.number new.number
            (if is_among progress.seen field.name then Some FIELD else None)
            (field_refusals (field.name ∷ progress.seen) fields ++ map (rule_refusal names) rules)
            refusal one.later here one.number;
      }

  -- the trees with one more
  trees_more : (rule : RuleSaid) (rules : List RuleSaid) (tree : Formula ℕ) → IsTreeOf names rule tree
      → (held : List (Formula ℕ)) → (held ++ tree ∷ []) ++ trees_of names rules
      ≡ held ++ trees_of names (rule ∷ rules)
  trees_more (Shallow formula) rules tree is held =
      append_assoc held (tree ∷ []) (trees_of names rules)
      ∙ ap (λ (tree : Formula ℕ). held ++ tree ∷ trees_of names rules) is
  trees_more (Deep text) rules tree is held = absurd is

  -- a rule more
  rule_added : (rule : RuleSaid) (rules : List RuleSaid) (new : Left) (words : LineWords)
      (after : RuleSet) → OneLine [] (rule ∷ rules) new words → AddsRule set after rule
      → line_refusal (names_of set.fields.items) (OfRule rule) ≡ None
      → Progress said refusal new after
  rule_added rule rules new words after one adds none =
      let are = one.next.are in
      let more : one.next.more ≡ map words_of (lines_of [] rules) = cc in
      let same = field_names one.fields_are in
      let tree : IsTreeOf names rule adds.tree =
      subst (λ (names : List (List ℕ)). IsTreeOf names rule adds.tree) same adds.is in
      record {
        fields = [];
        rules = rules;
        seen = progress.seen;
        seen_are = λ name. progress.seen_are name
            ∙ ap (λ (fields : List Field). is_among (names_of fields) name) (sym adds.fields);
        fields_are = one.fields_are ∙ ap (λ (first : List Field). first ++ []) (sym adds.fields);
        trees = ap (λ (held : List (Formula ℕ)). held ++ trees_of names rules) adds.rules
            ∙ trees_more rule rules adds.tree tree (map formula_of set.rules.items) ∙ one.trees;
        fits = All-tail FitsRuleLine (OfRule rule) (lines_of [] rules) one.fits;
        remains = subst (λ (items : List LineWords). Remains FitsWords words_line new.rest items) more
            one.next.remains;
        later = refused_later old.number new.number (rule_refusal names rule)
            (map (rule_refusal names) rules) refusal one.later
            (ap (λ (names : List (List ℕ)). rule_refusal names rule) (sym same) ∙ none) one.number;
      }

  -- what a call says that adds the next line
  abbrev pub AddsNext : LineWords → RuleSet → Type 0
  AddsNext words after =
      (line : RuleLine) → FitsRuleLine line → words ≡ words_of line → AddsLine set after line

  abbrev pub NotRefused : LineWords → Type 0
  NotRefused words =
      (line : RuleLine) → FitsRuleLine line → words ≡ words_of line
      → line_refusal (names_of set.fields.items) line ≡ None

  abbrev pub RefusesNext : LineWords → TextError → Type 0
  RefusesNext words error =
      (line : RuleLine) → FitsRuleLine line → words ≡ words_of line
      → SaysTextRefusal (at_line old.number (line_refusal (names_of set.fields.items) line)) error

  -- so the set comes further
  pub progress_step : (new : Left) (words : LineWords) (after : RuleSet) → FitsWords words
      → Passes old new (words_line words ∷ []) → AddsNext words after → NotRefused words
      → Progress said refusal new after
  progress_step new words after fits passes adds none =
      by progress.fields progress.rules (one_line new words fits passes)
    where
      by : (fields : List Field) (rules : List RuleSaid) → OneLine fields rules new words
          → Progress said refusal new after
      by [] [] one = absurd (cc one.next.are)
      by [] (rule ∷ rules) one =
          let is : words ≡ words_of (OfRule rule) = let are = one.next.are in cc in
          let fits = All-head FitsRuleLine (OfRule rule) (lines_of [] rules) one.fits in
          rule_added rule rules new words after one (adds (OfRule rule) fits is)
          (none (OfRule rule) fits is)
      by (field ∷ fields) rules one =
          let is : words ≡ words_of (OfField field) = let are = one.next.are in cc in
          let fits = All-head FitsRuleLine (OfField field) (lines_of fields rules) one.fits in
          field_added field fields rules new words after one (adds (OfField field) fits is)
          (none (OfField field) fits is)

  -- or the part is refused by the line
  pub progress_refusal : (new : Left) (words : LineWords) (error : TextError) → FitsWords words
      → Passes old new (words_line words ∷ []) → RefusesNext words error → SaysTextRefusal refusal error
  progress_refusal new words error fits passes refuses =
      by progress.fields progress.rules (one_line new words fits passes)
    where
      by : (fields : List Field) (rules : List RuleSaid) → OneLine fields rules new words
          → SaysTextRefusal refusal error
      by [] [] one = absurd (cc one.next.are)
      by [] (rule ∷ rules) one =
          let is : words ≡ words_of (OfRule rule) = let are = one.next.are in cc in
          let fits = All-head FitsRuleLine (OfRule rule) (lines_of [] rules) one.fits in
          refused_first old.number (rule_refusal names rule) (map (rule_refusal names) rules) refusal
          error one.later
          (subst (λ (names : List (List ℕ)). SaysTextRefusal (at_line old.number (rule_refusal names rule))
          error) (field_names one.fields_are) (refuses (OfRule rule) fits is))
      by (field ∷ fields) rules one =
          let is : words ≡ words_of (OfField field) = let are = one.next.are in cc in
          let fits = All-head FitsRuleLine (OfField field) (lines_of fields rules) one.fits in
          refused_first old.number (if is_among progress.seen field.name then Some FIELD else None)
          (field_refusals (field.name ∷ progress.seen) fields ++ map (rule_refusal names) rules)
          refusal error one.later
          (subst (λ (known : Bool). SaysTextRefusal (at_line old.number
          (if known then Some FIELD else None)) error) (sym (progress.seen_are field.name))
          (refuses (OfField field) fits is))
