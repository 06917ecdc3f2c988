-- A rule is what its text says, and rules with one text are one.
use Rattle.std.proofs.Common.{◌≡◌, ◌≢◌, ◌∙◌, ℕ, ◌<◌, ◌≤◌, ◌++◌, nat_le, nat_lt, Bool, true, false, List, [], ◌∷◌, length, Option, Some, None, if◌then◌else◌, refl, sym, ap, subst, arith}
use Rattle.std.specs.List.{AllByRecursion, list_all}
use Rattle.std.specs.Option.{is_some, option_and_then}
use Rattle.std.proofs.lemmas.Bool.{and_parts, le-leb, leb-true, lt-ltb, ltb-true}
use Rattle.std.proofs.lemmas.List.{append-nil}
use Rattle.std.proofs.lemmas.Option.{option_and_then_some}
use Rattle.pls_fronts.specs.Depth.{deepest}
use Rattle.pls_fronts.specs.Front.{whole_item}
use Rattle.pls_fronts.specs.laws.FrontLaws.{whole_is}
use Rattle.pls_rules.specs.Formula.{Formula, Eq, Lt, Le, Same, Both, Either, Not, All, Any}
use Rattle.pls_rule_text.specs.RuleText.{Deep, FitsRule, IsCharacter, IsRuleText, RuleSaid, Shallow, rule_text}
use Rattle.pls_rule_text.specs.inner.Fronts.{formula_front, formula_in}
use Rattle.pls_rule_text.specs.inner.Said.{is_character, is_rule, rule_said}
use Rattle.pls_rule_text.specs.laws.Characters.{character_is, character_passes, sentence_characters}
use Rattle.pls_rule_text.specs.laws.FormulaLaws.{FormulaIn, formula_is, sentence}
use Rattle.pls_rule_text.specs.laws.ReadLaws.{formula_read}
use Rattle.pls_rule_text.specs.laws.RuleDepths.{deepest-sentence}
use Rattle.pls_rule_text.specs.laws.Tests.{all_tested, no_truth, tested_all}

-- the whole of a text is a formula of at most 31 levels exactly where it is the formula's
pub formula_in-text : (formula : Formula (List ℕ)) → FormulaIn 31 formula
    → formula_in (sentence formula) ≡ Some formula
formula_in-text formula fits =
    ap formula_in (sym (append-nil (sentence formula)))
    ∙ ap (option_and_then whole_item) (formula_read formula 31 fits.0 fits.1 [])

pub formula_in-is : (text : List ℕ) (formula : Formula (List ℕ)) → formula_in text ≡ Some formula
    → (text ≡ sentence formula) × FormulaIn 31 formula
formula_in-is text formula is =
    option_and_then_some whole_item (formula_front 31 text) formula is
    (λ found stands whole.
    let front = formula_is 31 text found stands in
    let end = whole_is found formula whole in (
      front.written ∙ ap (λ (rest : List ℕ). sentence found.item ++ rest) end.1
          ∙ append-nil (sentence found.item) ∙ ap sentence end.0,
      subst (FormulaIn 31) end.0 front.fits,
    ))

-- no such formula has a text in which parentheses stand deeper
pub shallow_sentence : (formula : Formula (List ℕ)) → FormulaIn 31 formula
    → nat_lt 31 (deepest 0 (sentence formula)) ≡ false
shallow_sentence formula fits = by (nat_lt 31 (deepest 0 (sentence formula))) refl
  where
    by : (b : Bool) → nat_lt 31 (deepest 0 (sentence formula)) ≡ b
        → nat_lt 31 (deepest 0 (sentence formula)) ≡ false
    by false is = is
    by true is =
        absurd (omega (
          arith,
          ltb-true 31 (deepest 0 (sentence formula)) is,
          deepest-sentence formula fits.0,
          fits.1,
        ))

pub deep_says_none : (text : List ℕ) → 31 < deepest 0 text → formula_in text ≡ None
deep_says_none text deep = by (formula_in text) refl
  where
    by : (said : Option (Formula (List ℕ))) → formula_in text ≡ said → formula_in text ≡ None
    by None is = is
    by (Some formula) is =
        let front = formula_in-is text formula is in
        let here : 31 < deepest 0 (sentence formula) = subst (λ t. 31 < deepest 0 t) front.0 deep in
        absurd (omega (arith, here, deepest-sentence formula front.1.0, front.1.1))

-- a rule is what its text says
pub rule_said-text : (rule : RuleSaid) → FitsRule rule → rule_said (rule_text rule) ≡ rule
rule_said-text (Shallow formula) fits =
    rw (formula_in-text formula (fits.writable, fits.shallow)) refl
rule_said-text (Deep text) fits = rw (deep_says_none text fits.deep) refl

-- rules with one text are one
pub one_rule : (a b : RuleSaid) → FitsRule a → FitsRule b → rule_text a ≡ rule_text b → a ≡ b
one_rule a b fits_a fits_b same =
    sym (rule_said-text a fits_a) ∙ ap rule_said same ∙ rule_said-text b fits_b

-- the text of a rule has the characters of rules alone
pub rule_characters : (rule : RuleSaid) → FitsRule rule
    → list_all is_character (rule_text rule) ≡ true
rule_characters (Shallow formula) fits = sentence_characters formula fits.writable
rule_characters (Deep text) fits =
    tested_all IsCharacter is_character character_passes text fits.characters

-- so another stands nowhere in it, as a line feed and a blank
lacks_other : (byte : ℕ) → is_character byte ≡ false → (text : List ℕ)
    → list_all is_character text ≡ true → AllByRecursion (λ other. other ≢ byte) text
lacks_other byte other [] is = tt
lacks_other byte other (character ∷ text) is =
    let both = and_parts (is_character character) (list_all is_character text) is in (
      λ same. no_truth (sym other ∙ ap is_character (sym same) ∙ both.0),
      lacks_other byte other text both.1,
    )

pub rule_lacks : (byte : ℕ) → is_character byte ≡ false → (rule : RuleSaid) → FitsRule rule
    → AllByRecursion (λ other. other ≢ byte) (rule_text rule)
rule_lacks byte other rule fits =
    lacks_other byte other (rule_text rule) (rule_characters rule fits)

pub rule_lacks_line_feed : (rule : RuleSaid) → FitsRule rule
    → AllByRecursion (λ other. other ≢ 10) (rule_text rule)
rule_lacks_line_feed rule fits = rule_lacks 10 refl rule fits

pub rule_lacks_blank : (rule : RuleSaid) → FitsRule rule
    → AllByRecursion (λ other. other ≢ 32) (rule_text rule)
rule_lacks_blank rule fits = rule_lacks 32 refl rule fits

-- and it is not empty
sentence_some : (formula : Formula (List ℕ)) → 1 ≤ length (sentence formula)
sentence_some (Eq a b) = omega arith
sentence_some (Lt a b) = omega arith
sentence_some (Le a b) = omega arith
sentence_some (Same a b) = omega arith
sentence_some (Both a b) = omega arith
sentence_some (Either a b) = omega arith
sentence_some (Not a) = omega arith
sentence_some (All a) = omega arith
sentence_some (Any a) = omega arith

deep_some : (text : List ℕ) → 31 < deepest 0 text → 1 ≤ length text
deep_some [] deep = absurd (omega (arith, deep))
deep_some (character ∷ text) deep = omega arith

pub rule_some : (rule : RuleSaid) → FitsRule rule → 1 ≤ length (rule_text rule)
rule_some (Shallow formula) fits = sentence_some formula
rule_some (Deep text) fits = deep_some text fits.deep

-- the text is that of a rule exactly where it passes the test
pub rule_is : (text : List ℕ) → is_rule text ≡ true → IsRuleText text
rule_is text is =
    let both = and_parts (nat_le (length text) 4096) _ is in
    let few : length text ≤ 4096 = leb-true (length text) 4096 both.0 in
    by few (nat_lt 31 (deepest 0 text)) refl both.1
  where
    said : length text ≤ 4096 → (formula : Option (Formula (List ℕ))) → formula_in text ≡ formula
        → is_some formula ≡ true → IsRuleText text
    said few None is some = absurd (no_truth some)
    said few (Some formula) is some =
        let front = formula_in-is text formula is in
        record {
          rule = Shallow formula;
          fits = record {
            writable = front.1.0;
            few = rw (← front.0) few;
            shallow = front.1.1;
          };
          written = front.0;
        }

    by : length text ≤ 4096 → (b : Bool) → nat_lt 31 (deepest 0 text) ≡ b
        → (if b then list_all is_character text else is_some (formula_in text)) ≡ true
        → IsRuleText text
    by few true deep all = record {
      rule = Deep text;
      fits = record {
        few = few;
        characters = all_tested IsCharacter is_character character_is text all;
        deep = ltb-true 31 (deepest 0 text) deep;
      };
      written = refl;
    }
    by few false shallow some = said few (formula_in text) refl some

pub rule_passes : (text : List ℕ) → IsRuleText text → is_rule text ≡ true
rule_passes text is = subst (λ t. is_rule t ≡ true) (sym is.written) (by is.rule is.fits)
  where
    by : (rule : RuleSaid) → FitsRule rule → is_rule (rule_text rule) ≡ true
    by (Shallow formula) fits =
        rw (
          le-leb (length (sentence formula)) 4096 fits.few,
          shallow_sentence formula (fits.writable, fits.shallow),
          formula_in-text formula (fits.writable, fits.shallow),
        ) refl
    by (Deep text) fits =
        rw (
          le-leb (length text) 4096 fits.few,
          lt-ltb 31 (deepest 0 text) fits.deep,
          rule_characters (Deep text) fits,
        ) refl
