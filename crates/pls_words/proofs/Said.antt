-- What is counted of words tells whether they say something.
use Rattle.std.proofs.Common.{◌≡◌, ◌∙◌, ◌⊎◌, ◌↔◌, ◌≤◌, ◌+◌, ℕ, Bool, true, false, ◌||◌, List, [], ◌∷◌, ◌++◌, length, Option, Some, None, option_and_then, option_map, if◌then◌else◌, refl, sym, ap, arith, inl, inr}
use Rattle.std.specs.List.{list_any}
use Rattle.std.proofs.lemmas.Option.{same_Some}
use Rattle.std.proofs.lemmas.List.{length-append}
use Rattle.pls_words.specs.declared.command_words.Flag.{Flag}
use Rattle.pls_words.specs.declared.command_words.Flag.TheVariants.{Bare, Json, Coded}
use Rattle.pls_words.specs.Words.{Said, flag_cut, is_code, is_dashed, is_json, said_beside, said_by_words, said_with}
use Rattle.pls_words.specs.inner.Formed.{IsFormed, count_beside, plain_count}
use Rattle.pls_words.proofs.Forms.{Cut, flag_words, stands}

-- one word more, which is no flag
abbrev pub counted_behind : List ℕ → Option ℕ → Option ℕ
counted_behind word count =
    option_and_then (λ count. if is_dashed word then None else Some (count + 1)) count

pub behind_plain : (word : List ℕ) (count : ℕ) → is_dashed word ≡ false
    → Some (count + 1) ≡ counted_behind word (Some count)
behind_plain word count plain = rw plain refl

pub one_more : (word : List ℕ) (others : List (List ℕ)) → is_json word ≡ false
    → is_code word ≡ false
    → count_beside (word ∷ others) ≡ counted_behind word (count_beside others)
one_more word others no_json no_code = rw (no_json, no_code) (by (flag_cut others))
  where
    tested : (cut : Cut) (dashed behind : Bool)
        → (if dashed || behind then None else Some (length (word ∷ cut.1)))
        ≡ option_and_then (λ count. if dashed then None else Some (count + 1))
        (if behind then None else Some (length cut.1))
    tested cut true true = refl
    tested cut true false = refl
    tested cut false true = refl
    tested cut false false = ap Some (omega arith)

    by : (found : Option Cut)
        → option_and_then (λ (cut : Cut). plain_count cut.1)
        (option_map (λ (cut : Cut). (cut.0, word ∷ cut.1)) found)
        ≡ counted_behind word (option_and_then (λ (cut : Cut). plain_count cut.1) found)
    by None = refl
    by (Some cut) = tested cut (is_dashed word) (list_any is_dashed cut.1)

-- one word or two
abbrev IsOneOrTwo : Option ℕ → Type 0
IsOneOrTwo count = (count ≡ Some 1) ⊎ (count ≡ Some 2)

-- words of which one or two stand beside the flag say something, and only these
pub says_something : (words : List (List ℕ)) → IsOneOrTwo (count_beside words) ↔ IsFormed words
says_something words = by (flag_cut words) refl
  where
    one_or_two : (flag : Flag) (others : List (List ℕ)) → IsOneOrTwo (Some (length others))
        → (said : Said) × (said_with flag others ≡ Some said)
    one_or_two flag [] many = elim many [ inl one ↦ absurd (cc) | inr two ↦ absurd (cc) ]
    one_or_two flag (a ∷ []) many =
        (record { command = a; argument = None; flag = flag }, refl)
    one_or_two flag (a ∷ b ∷ []) many =
        (record { command = a; argument = Some b; flag = flag }, refl)
    one_or_two flag (a ∷ b ∷ c ∷ others) many = elim many [
      | inl one ↦ absurd (let same = same_Some (length (a ∷ (b ∷ (c ∷ others)))) 1 one in omega arith)
      | inr two ↦ absurd (let same = same_Some (length (a ∷ (b ∷ (c ∷ others)))) 2 two in omega arith)
    ]

    counted : (flag : Flag) (others : List (List ℕ)) (said : Said)
        → said_with flag others ≡ Some said → IsOneOrTwo (Some (length others))
    counted flag [] said is = absurd (cc)
    counted flag (a ∷ []) said is = inl refl
    counted flag (a ∷ b ∷ []) said is = inr refl
    counted flag (a ∷ b ∷ c ∷ others) said is = absurd (cc)

    tested : (cut : Cut) (dashed : Bool) → list_any is_dashed cut.1 ≡ dashed
        → flag_cut words ≡ Some cut → IsOneOrTwo (count_beside words) ↔ IsFormed words
    tested cut true is_dash is_cut = (
      λ many. absurd (elim many [
        | inl one ↦ let none : None ≡ Some 1 = rw (is_cut, is_dash) at one in cc
        | inr two ↦ let none : None ≡ Some 2 = rw (is_cut, is_dash) at two in cc
      ]),
      λ formed. absurd (
          let is = formed.is in
          let none : None ≡ Some formed.said = rw (is_cut, is_dash) at is in cc),
    )
    tested cut false is_dash is_cut = (
      λ many.
          let here : IsOneOrTwo (Some (length cut.1)) = rw (is_cut, is_dash) at many in
          let found = one_or_two cut.0 cut.1 here in
          record { said = found.0; is = rw (is_cut, is_dash) found.1 },
      λ formed.
          let is = formed.is in
          let here : said_with cut.0 cut.1 ≡ Some formed.said = rw (is_cut, is_dash) at is in
          rw (is_cut, is_dash) (counted cut.0 cut.1 formed.said here),
    )

    by : (found : Option Cut) → flag_cut words ≡ found
        → IsOneOrTwo (count_beside words) ↔ IsFormed words
    by None is_cut = (
      λ many. absurd (elim many [
        | inl one ↦ let none : None ≡ Some 1 = rw is_cut at one in cc
        | inr two ↦ let none : None ≡ Some 2 = rw is_cut at two in cc
      ]),
      λ formed. absurd (
          let is = formed.is in
          let none : None ≡ Some formed.said = rw is_cut at is in cc),
    )
    by (Some cut) is_cut = tested cut (list_any is_dashed cut.1) refl is_cut

short_flag : (flag : Flag) → length (flag_words flag) ≤ 2
short_flag Bare = omega arith
short_flag Json = omega arith
short_flag (Coded code) = omega arith

-- and there are at most four of them
pub formed_short : (words : List (List ℕ)) → IsFormed words → length words ≤ 4
formed_short words formed = by (flag_cut words) refl ((says_something words).1 formed)
  where
    long : (front middle back : List (List ℕ))
        → length (front ++ (middle ++ back)) ≡ length (front ++ back) + length middle
    long front middle back =
        let a = length-append front (middle ++ back) in
        let b = length-append middle back in
        let c = length-append front back in
        omega (arith, a, b, c)

    few : (cut : Cut) → plain_count cut.1 ≡ Some 1 ⊎ plain_count cut.1 ≡ Some 2
        → length cut.1 ≤ 2
    few cut many = tested (list_any is_dashed cut.1) many
      where
        tested : (dashed : Bool)
            → ((if dashed then None else Some (length cut.1)) ≡ Some 1)
            ⊎ ((if dashed then None else Some (length cut.1)) ≡ Some 2) → length cut.1 ≤ 2
        tested true many = absurd (elim many [ inl one ↦ cc | inr two ↦ cc ])
        tested false many = elim many [
          | inl one ↦ let same = same_Some (length cut.1) 1 one in omega (arith, same)
          | inr two ↦ let same = same_Some (length cut.1) 2 two in omega (arith, same)
        ]

    by : (found : Option Cut) → flag_cut words ≡ found → IsOneOrTwo (count_beside words)
        → length words ≤ 4
    by None is_cut many =
        absurd (elim many [
          | inl one ↦ let none : None ≡ Some 1 = rw is_cut at one in cc
          | inr two ↦ let none : None ≡ Some 2 = rw is_cut at two in cc
        ])
    by (Some cut) is_cut many =
        let here : IsOneOrTwo (plain_count cut.1) = rw is_cut at many in
        let at = stands words cut is_cut in
        let whole = long at.front (flag_words cut.0) at.back in
        let others = ap (λ (list : List (List ℕ)). length list) at.are in
        let all = ap (λ (list : List (List ℕ)). length list) at.whole in
        let most = few cut here in
        let flag = short_flag cut.0 in
        omega (arith, whole, others, all, most, flag)

-- what is said, by its parts
pub same_said : (command : List ℕ) (argument : Option (List ℕ)) (flag : Flag) (said : Said)
    → command ≡ said.command → argument ≡ said.argument → flag ≡ said.flag
    → record { command = command; argument = argument; flag = flag } ≡ said
same_said command argument flag said one two three = rw (one, two, three) refl
