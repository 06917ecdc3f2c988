-- Words that say something have one of twelve shapes, and in each `clap` finds what they say.
use Rattle.std.proofs.Common.{◌≡◌, ◌∙◌, Bool, true, false, ◌||◌, List, [], ◌∷◌, ◌++◌, Option, Some, None, option_and_then, option_map, bytes_eq, codes, sym, subst, ap, refl, if◌then◌else◌}
use Rattle.std.specs.List.{list_any}
use Rattle.std.proofs.lemmas.Slice.Eq.{bytes_eq-Decides}
use Rattle.std.proofs.lemmas.Option.{same_Some}
use Rattle.std.proofs.lemmas.List.{append-nil}
use Rattle.clap.specs.Words.{Text, first_of, one_of, matches_of, takes}
use Rattle.pls_bits.specs.declared.code_name.CodeName.{CodeName}
use Rattle.pls_bits.specs.declared.code_name.CodeName.TheVariants.{Gamma, Delta}
use Rattle.pls_words.specs.declared.command_words.Flag.{Flag}
use Rattle.pls_words.specs.declared.command_words.Flag.TheVariants.{Bare, Json, Coded}
use Rattle.pls_words.specs.Words.{Said, code_cut, code_named, flag_cut, is_code, is_dashed, is_json, said_beside, said_by_words, said_with}
use Rattle.pls_words.specs.inner.Parser.{code_word, name_of_code, parser, switch_of}
use Rattle.pls_words.proofs.Turns.{coded, json}
use Rattle.pls_words.proofs.Shapes.{Reads, code_between, code_first, code_last, code_two, json_between, json_first, json_last, json_two, one, two, two_code, two_json}

-- the words of a flag
abbrev pub flag_words : Flag → List Text
flag_words Bare = []
flag_words Json = json ∷ []
flag_words (Coded code) = coded ∷ (name_of_code code ∷ [])

-- the words are these others, with a flag somewhere between them
pub record Stands (words : List Text) (flag : Flag) (others : List Text) : Type 0 where
  pub front : List Text
  pub back : List Text
  pub are : others ≡ front ++ back
  pub whole : words ≡ front ++ (flag_words flag ++ back)

abbrev pub Cut : Type 0
Cut = Flag × List Text

name_is : (word : Text) (code : CodeName) → code_named word ≡ Some code → word ≡ name_of_code code
name_is word code is = by (bytes_eq word (codes "gamma")) (bytes_eq word (codes "delta")) refl refl is
  where
    by : (gamma delta : Bool) → bytes_eq word (codes "gamma") ≡ gamma
        → bytes_eq word (codes "delta") ≡ delta
        → (if gamma then Some Gamma else (if delta then Some Delta else None)) ≡ Some code
        → word ≡ name_of_code code
    by true delta is_gamma is_delta found =
        (bytes_eq-Decides word (codes "gamma")).0 is_gamma
        ∙ ap name_of_code (same_Some Gamma code found)
    by false true is_gamma is_delta found =
        (bytes_eq-Decides word (codes "delta")).0 is_delta
        ∙ ap name_of_code (same_Some Delta code found)
    by false false is_gamma is_delta found = absurd (cc)

code_stands : (words : List Text) (cut : Cut) → code_cut words ≡ Some cut
    → Stands (coded ∷ words) cut.0 cut.1
code_stands [] cut is = absurd (cc)
code_stands (name ∷ others) cut is = by (code_named name) refl is
  where
    by : (found : Option CodeName) → code_named name ≡ found
        → option_map (λ code. (Coded code, others)) found ≡ Some cut
        → Stands (coded ∷ (name ∷ others)) cut.0 cut.1
    by None is_named is_cut = absurd (cc)
    by (Some code) is_named is_cut =
        subst (λ (cut : Cut). Stands (coded ∷ (name ∷ others)) cut.0 cut.1)
        (same_Some (Coded code, others) cut is_cut)
        (record {
          front = [];
          back = others;
          are = refl;
          whole = ap (λ (word : Text). coded ∷ (word ∷ others)) (name_is name code is_named);
        })

-- where a flag is cut out, it stands between the others
pub stands : (words : List Text) (cut : Cut) → flag_cut words ≡ Some cut → Stands words cut.0 cut.1
stands [] cut is =
    subst (λ (cut : Cut). Stands [] cut.0 cut.1) (same_Some (Bare, []) cut is)
    (record { front = []; back = []; are = refl; whole = refl })
stands (word ∷ others) cut is = by (is_json word) (is_code word) refl refl is (stands others)
  where
    Later : Type 0
    Later = (found : Cut) → flag_cut others ≡ Some found → Stands others found.0 found.1

    behind : (found : Option Cut) → flag_cut others ≡ found
        → option_map (λ (cut : Cut). (cut.0, word ∷ cut.1)) found ≡ Some cut → Later
        → Stands (word ∷ others) cut.0 cut.1
    behind None found_is is later = absurd (cc)
    behind (Some found) found_is is shorter =
        let later = shorter found found_is in
        subst (λ (cut : Cut). Stands (word ∷ others) cut.0 cut.1)
        (same_Some (found.0, word ∷ found.1) cut is)
        (record {
          front = word ∷ later.front;
          back = later.back;
          are = ap (λ (others : List Text). word ∷ others) later.are;
          whole = ap (λ (others : List Text). word ∷ others) later.whole;
        })

    by : (flag code : Bool) → is_json word ≡ flag → is_code word ≡ code
        → (if flag then Some (Json, others) else (if code then code_cut others
        else option_map (λ (cut : Cut). (cut.0, word ∷ cut.1)) (flag_cut others))) ≡ Some cut
        → Later → Stands (word ∷ others) cut.0 cut.1
    by true code is_flag is_code' found later =
        subst (λ (cut : Cut). Stands (word ∷ others) cut.0 cut.1)
        (same_Some (Json, others) cut found)
        (record {
          front = [];
          back = others;
          are = refl;
          whole = ap (λ (word : Text). word ∷ others) ((bytes_eq-Decides word json).0 is_flag);
        })
    by false true is_flag is_code' found later =
        subst (λ (word : Text). Stands (word ∷ others) cut.0 cut.1)
        (sym ((bytes_eq-Decides word coded).0 is_code')) (code_stands others cut found)
    by false false is_flag is_code' found later = behind (flag_cut others) refl found later

-- what `clap` finds is what was said
abbrev ReadsSaid : List Text → Said → Type 0
ReadsSaid words said =
    Reads words said.command said.argument (switch_of said.flag) (code_word said.flag)

plain_name : (code : CodeName) → is_dashed (name_of_code code) ≡ false
plain_name Gamma = refl
plain_name Delta = refl

-- a flag and one word
with_one : (flag : Flag) (a : Text) → is_dashed a ≡ false → (front back : List Text)
    → a ∷ [] ≡ front ++ back
    → Reads (front ++ (flag_words flag ++ back)) a None (switch_of flag) (code_word flag)
with_one flag a plain [] back are =
    subst (λ (back : List Text). Reads (flag_words flag ++ back) a None (switch_of flag)
    (code_word flag)) are (by flag)
  where
    by : (flag : Flag)
        → Reads (flag_words flag ++ (a ∷ [])) a None (switch_of flag) (code_word flag)
    by Bare = one a plain
    by Json = json_first a plain
    by (Coded code) = code_first a (name_of_code code) plain (plain_name code)
with_one flag a plain (first ∷ []) back are =
    let same : a ≡ first = cc in
    let none : [] ≡ back = cc in
    subst (λ (first : Text). Reads (first ∷ (flag_words flag ++ back)) a None (switch_of flag)
    (code_word flag)) same
    (subst (λ (back : List Text). Reads (a ∷ (flag_words flag ++ back)) a None (switch_of flag)
    (code_word flag)) none (by flag))
  where
    by : (flag : Flag)
        → Reads (a ∷ (flag_words flag ++ [])) a None (switch_of flag) (code_word flag)
    by Bare = one a plain
    by Json = json_last a plain
    by (Coded code) = code_last a (name_of_code code) plain (plain_name code)
with_one flag a plain (first ∷ next ∷ front) back are = absurd (cc)

-- a flag and two words
with_two : (flag : Flag) (a b : Text) → is_dashed a ≡ false → is_dashed b ≡ false
    → (front back : List Text) → a ∷ (b ∷ []) ≡ front ++ back
    → Reads (front ++ (flag_words flag ++ back)) a (Some b) (switch_of flag) (code_word flag)
with_two flag a b p q [] back are =
    subst (λ (back : List Text). Reads (flag_words flag ++ back) a (Some b) (switch_of flag)
    (code_word flag)) are (by flag)
  where
    by : (flag : Flag)
        → Reads (flag_words flag ++ (a ∷ (b ∷ []))) a (Some b) (switch_of flag) (code_word flag)
    by Bare = two a b p q
    by Json = json_two a b p q
    by (Coded code) = code_two a b (name_of_code code) p q (plain_name code)
with_two flag a b p q (first ∷ []) back are =
    let same : a ≡ first = cc in
    let rest : b ∷ [] ≡ back = cc in
    subst (λ (first : Text). Reads (first ∷ (flag_words flag ++ back)) a (Some b) (switch_of flag)
    (code_word flag)) same
    (subst (λ (back : List Text). Reads (a ∷ (flag_words flag ++ back)) a (Some b)
    (switch_of flag) (code_word flag)) rest (by flag))
  where
    by : (flag : Flag)
        → Reads (a ∷ (flag_words flag ++ (b ∷ []))) a (Some b) (switch_of flag) (code_word flag)
    by Bare = two a b p q
    by Json = json_between a b p q
    by (Coded code) = code_between a b (name_of_code code) p q (plain_name code)
with_two flag a b p q (first ∷ next ∷ []) back are =
    let same : a ≡ first = cc in
    let also : b ≡ next = cc in
    let none : [] ≡ back = cc in
    subst (λ (first : Text). Reads (first ∷ (next ∷ (flag_words flag ++ back))) a (Some b)
    (switch_of flag) (code_word flag)) same
    (subst (λ (next : Text). Reads (a ∷ (next ∷ (flag_words flag ++ back))) a (Some b)
    (switch_of flag) (code_word flag)) also
    (subst (λ (back : List Text). Reads (a ∷ (b ∷ (flag_words flag ++ back))) a (Some b)
    (switch_of flag) (code_word flag)) none (by flag)))
  where
    by : (flag : Flag)
        → Reads (a ∷ (b ∷ (flag_words flag ++ []))) a (Some b) (switch_of flag) (code_word flag)
    by Bare = two a b p q
    by Json = two_json a b p q
    by (Coded code) = two_code a b (name_of_code code) p q (plain_name code)
with_two flag a b p q (first ∷ next ∷ third ∷ front) back are = absurd (cc)

-- what stands beside a flag
beside : (cut : Cut) (said : Said) → said_beside cut ≡ Some said → (front back : List Text)
    → cut.1 ≡ front ++ back → ReadsSaid (front ++ (flag_words cut.0 ++ back)) said
beside (flag, []) said is front back are = absurd (cc)
beside (flag, a ∷ []) said is front back are = by (is_dashed a) refl is
  where
    by : (dashed : Bool) → is_dashed a ≡ dashed
        → (if dashed || false then None else said_with flag (a ∷ [])) ≡ Some said
        → ReadsSaid (front ++ (flag_words flag ++ back)) said
    by true is_dash is = absurd (cc)
    by false is_dash is =
        subst (ReadsSaid (front ++ (flag_words flag ++ back)))
        (same_Some (record { command = a; argument = None; flag = flag }) said is)
        (with_one flag a is_dash front back are)
beside (flag, a ∷ b ∷ []) said is front back are = by (is_dashed a) (is_dashed b) refl refl is
  where
    by : (one other : Bool) → is_dashed a ≡ one → is_dashed b ≡ other
        → (if one || (other || false) then None else said_with flag (a ∷ (b ∷ []))) ≡ Some said
        → ReadsSaid (front ++ (flag_words flag ++ back)) said
    by true other is_one is_other is = absurd (cc)
    by false true is_one is_other is = absurd (cc)
    by false false is_one is_other is =
        subst (ReadsSaid (front ++ (flag_words flag ++ back)))
        (same_Some (record { command = a; argument = Some b; flag = flag }) said is)
        (with_two flag a b is_one is_other front back are)
beside (flag, a ∷ b ∷ c ∷ others) said is front back are =
    absurd (by (list_any is_dashed (a ∷ (b ∷ (c ∷ others)))) is)
  where
    by : (dashed : Bool)
        → (if dashed then None else said_with flag (a ∷ (b ∷ (c ∷ others)))) ≡ Some said → ⊥
    by true is = cc
    by false is = cc

-- what `clap` finds in words that say something
pub reads : (words : List Text) (said : Said) → said_by_words words ≡ Some said
    → ReadsSaid words said
reads words said is = by (flag_cut words) refl is
  where
    by : (found : Option Cut) → flag_cut words ≡ found
        → option_and_then said_beside found ≡ Some said → ReadsSaid words said
    by None cut_is is = absurd (cc)
    by (Some cut) cut_is is =
        let here = stands words cut cut_is in
        subst (λ (words : List Text). ReadsSaid words said) (sym here.whole)
        (beside cut said is here.front here.back here.are)
