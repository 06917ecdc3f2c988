-- The lines of fields and rules are a kind of line, and lists of them a part.
use Rattle.std.proofs.Common.{◌≡◌, ℕ, ◌<◌, ◌≤◌, nat_lt, true, All, List, [], ◌∷◌, map, Option, Some, None, option_map, if◌then◌else◌, codes, refl, sym, subst, arith}
use Rattle.std.specs.List.{AllByRecursion, list_all}
use Rattle.std.specs.Str.{bytes_eq}
use Rattle.std.proofs.lemmas.List.Elements.{All-cons, All-head, All-nil, All-tail}
use Rattle.pls_numbers.specs.declared.kind.FieldKind.{FieldKind}
use Rattle.pls_numbers.specs.declared.kind.FieldKind.TheVariants.{Num, Bit}
use Rattle.pls_lines.specs.Counted.{IsHeadingWord}
use Rattle.pls_lines.specs.Plain.{LacksItem}
use Rattle.pls_lines.specs.LineKind.{Always, IsLineKind, alone}
use Rattle.pls_lines.specs.ListPart.{IsListKind}
use Rattle.pls_lines.specs.Part.{IsSomePart}
use Rattle.pls_lines.specs.Worded.{IsWord, IsWorded}
use Rattle.pls_lines.specs.declared.counted.BareHeading.{BareHeading}
use Rattle.pls_lines.specs.laws.CountedLaws.{heading_kind}
use Rattle.pls_lines.specs.laws.LineWords.{same_head}
use Rattle.pls_lines.specs.laws.ListLaws.{list_is_some_part}
use Rattle.pls_lines.specs.laws.WordedLaws.{above_lacks, worded_kind}
use Rattle.pls_rule_text.specs.FormulaText.{IsFieldName}
use Rattle.pls_rule_text.specs.RuleText.{IsRuleText}
use Rattle.pls_rule_text.specs.laws.RuleLaws.{rule_lacks_blank, rule_lacks_line_feed}
use Rattle.pls_rules_part.specs.RulesScan.{AreRuleLines, FieldWords, FitsWords, IsRulesPart, LineWords, RuleBytes, first_word, words_behind, words_line, words_of}
use Rattle.pls_rules_part.specs.RulesText.{FitsRuleLine, OfField, OfRule, RuleLine, RulesSaid, kind_word, rule_lines}
use Rattle.pls_rules_part.specs.declared.rules_tally.RulesWord.{RulesWord}

-- what the word of a kind says
abbrev kind_said : List ℕ → Option FieldKind
kind_said word =
    if bytes_eq word (codes "num") then Some Num
    else if bytes_eq word (codes "bit") then Some Bit
    else None

-- what the words behind the first say
abbrev field_said : List (List ℕ) → Option LineWords
field_said (name ∷ kind ∷ []) =
    option_map (λ kind. FieldWords (record { name = name; kind = kind })) (kind_said kind)
field_said others = None

abbrev rule_said : List (List ℕ) → Option LineWords
rule_said (text ∷ []) = Some (RuleBytes text)
rule_said others = None

-- what the words of a line say
abbrev words_said : List ℕ → List (List ℕ) → Option LineWords
words_said word args =
    if bytes_eq word (codes "field") then field_said args
    else if bytes_eq word (codes "rule") then rule_said args
    else None

-- small letters are above the space and the line feed
letters_lack : (byte : ℕ) → byte < 33 → (name : List ℕ)
    → All (λ letter. (97 ≤ letter) × (letter ≤ 122)) name → LacksItem byte name
letters_lack byte low [] all = tt
letters_lack byte low (letter ∷ name) all =
    let first = All-head (λ letter. (97 ≤ letter) × (letter ≤ 122)) letter name all in
    let others = All-tail (λ letter. (97 ≤ letter) × (letter ≤ 122)) letter name all in
    (λ same. omega (arith, low, first.0, same), letters_lack byte low name others)

-- a name, a kind and the text of a rule are words
pub name_is_word : (name : List ℕ) → IsFieldName name → IsWord name
name_is_word name is = record {
  plain = letters_lack 10 (omega arith) name is.name_of.letters;
  whole = letters_lack 32 (omega arith) name is.name_of.letters;
}

kind_is_word : (kind : FieldKind) → IsWord (kind_word kind)
kind_is_word Num = record {
  plain = above_lacks 10 (codes "num") (omega arith) refl;
  whole = above_lacks 32 (codes "num") (omega arith) refl;
}
kind_is_word Bit = record {
  plain = above_lacks 10 (codes "bit") (omega arith) refl;
  whole = above_lacks 32 (codes "bit") (omega arith) refl;
}

pub rule_is_word : (text : List ℕ) → IsRuleText text → IsWord text
rule_is_word text is = record {
  plain = subst (LacksItem 10) (sym is.written) (rule_lacks_line_feed is.rule is.fits);
  whole = subst (LacksItem 32) (sym is.written) (rule_lacks_blank is.rule is.fits);
}

-- the words of a line are words, and say it
line_words : IsWorded FitsWords first_word words_behind words_said
line_words = record { above = above; are_words = are_words; back = back; no_end = refl }
  where
    above : (line : LineWords) → list_all (nat_lt 32) (first_word line) ≡ true
    above (FieldWords field) = refl
    above (RuleBytes text) = refl

    are_words : (line : LineWords) → FitsWords line → AllByRecursion IsWord (words_behind line)
    are_words (FieldWords field) fits =
        (name_is_word field.name fits, (kind_is_word field.kind, tt))
    are_words (RuleBytes text) fits = (rule_is_word text fits, tt)

    kind_back : (name : List ℕ) (kind : FieldKind) → field_said (name ∷ kind_word kind ∷ [])
        ≡ Some (FieldWords (record { name = name; kind = kind }))
    kind_back name Num = refl
    kind_back name Bit = refl

    back : (line : LineWords) → FitsWords line
        → words_said (first_word line) (words_behind line) ≡ Some line
    back (FieldWords field) fits = kind_back field.name field.kind
    back (RuleBytes text) fits = refl

pub lines_of_rules : IsLineKind FitsWords words_line
lines_of_rules = worded_kind FitsWords first_word words_behind words_said line_words

-- the heading stands in a line of its own
pub rules_word : IsHeadingWord (codes "rules")
rules_word = record {
  plain = above_lacks 10 (codes "rules") (omega arith) refl;
  other = λ e. omega (arith, same_head 114 101 _ _ e);
}

-- the heading is a kind of line
pub rules_headings : IsLineKind {X = BareHeading RulesWord} Always (alone (codes "rules"))
rules_headings = heading_kind (codes "rules") rules_word (λ a b. refl)

-- a set of one field, and no rules
abbrev one_field : RulesSaid
one_field = record { fields = record { name = codes "a"; kind = Num } ∷ []; rules = [] }

one_letter : IsFieldName (codes "a")
one_letter = record {
  name_of = record {
    some = omega arith;
    few = omega arith;
    letters = All-cons (λ letter. (97 ≤ letter) × (letter ≤ 122)) 97 [] (omega arith, omega arith)
        (All-nil (λ letter. (97 ≤ letter) × (letter ≤ 122)));
  };
  no_weight = λ e. omega (arith, same_head 97 119 _ _ e);
  no_up = λ e. omega (arith, same_head 97 117 _ _ e);
}

-- what a line may say has words that fit
pub words_fit : (lines : List RuleLine) → All FitsRuleLine lines → All FitsWords (map words_of lines)
words_fit [] fits = All-nil FitsWords
words_fit (line ∷ lines) fits =
    All-cons FitsWords (words_of line) (map words_of lines)
    (one line (All-head FitsRuleLine line lines fits))
    (words_fit lines (All-tail FitsRuleLine line lines fits))
  where
    one : (line : RuleLine) → FitsRuleLine line → FitsWords (words_of line)
    one (OfField field) fits = fits
    one (OfRule rule) fits = record { rule = rule; fits = fits; written = refl }

-- lists of a part have lines that fit
pub rules_list : IsListKind {H = BareHeading RulesWord} Always FitsWords AreRuleLines
rules_list = record {
  heading = record { of = record {} };
  headed = tt;
  fits = λ lines are. subst (λ (all : List LineWords). All FitsWords all) (sym are.is)
      (words_fit (rule_lines are.said) are.are.each);
  some = record {
    more = FieldWords (record { name = codes "a"; kind = Num }) ∷ [];
    are = record {
      said = one_field;
      are = record {
        some = omega arith;
        fields = omega arith;
        rules = omega arith;
        each = All-cons FitsRuleLine (OfField (record { name = codes "a"; kind = Num })) [] one_letter
            (All-nil FitsRuleLine);
      };
      is = refl;
    };
  };
}

-- so there is a rules part, and it tells where it ends
pub rules_some_part : IsSomePart IsRulesPart
rules_some_part =
    list_is_some_part Always (alone (codes "rules")) FitsWords words_line AreRuleLines
    rules_headings lines_of_rules rules_list
