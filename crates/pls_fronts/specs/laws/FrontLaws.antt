-- What stands at the front of a text: a word is read where it stands, and nowhere else.
use Rattle.std.proofs.Common.{◌≡◌, ◌∙◌, ◌⊎◌, inl, inr, ℕ, ◌==◌, ◌++◌, Bool, true, false, List, [], ◌∷◌, length, Option, Some, None, option_map, if◌then◌else◌, refl, ap, arith}
use Rattle.std.specs.Option.{option_or}
use Rattle.std.proofs.lemmas.Bool.{eq-eqb, eqb-true}
use Rattle.std.proofs.lemmas.Option.{same_Some}
use Rattle.pls_fronts.specs.Front.{Front, after, followed, whole_item, word_front}

-- what follows a word follows it
pub after_is : (word text rest : List ℕ) → after word text ≡ Some rest → text ≡ word ++ rest
after_is [] text rest is = same_Some text rest is
after_is (character ∷ word) [] rest is = absurd (cc)
after_is (character ∷ word) (other ∷ text) rest is =
    by (character == other) refl (after_is word text rest) is
  where
    by : (b : Bool) → (character == other) ≡ b → (after word text ≡ Some rest → text ≡ word ++ rest)
        → (if b then after word text else None) ≡ Some rest
        → other ∷ text ≡ character ∷ (word ++ rest)
    by true same later found =
        let e : character ≡ other = eqb-true character other same in
        rw (e, ← later found) refl
    by false same later found = absurd (cc)

-- a word is followed by what stands behind it
pub after_word : (word rest : List ℕ) → after word (word ++ rest) ≡ Some rest
after_word [] rest = refl
after_word (character ∷ word) rest = rw (eq-eqb character character refl) (after_word word rest)

-- an item that is found, with what follows it
pub found_is : {A : Type 0} (item : A) (word text : List ℕ) (found : Front A) → (rest : Option (List ℕ))
    → after word text ≡ rest → option_map (followed item) rest ≡ Some found
    → (item ≡ found.item) × (text ≡ word ++ found.rest)
found_is item word text found None stands same = absurd (cc)
found_is {A} item word text found (Some rest) stands same =
    let one : followed item rest ≡ found = same_Some (followed item rest) found same in (
      ap (λ (f : Front A). f.item) one,
      after_is word text rest stands ∙ ap (λ (f : Front A). word ++ f.rest) one,
    )

-- what stands for a word stands in front
pub worded_is : {A : Type 0} (item : A) (word text : List ℕ) (found : Front A)
    → word_front item word text ≡ Some found → (item ≡ found.item) × (text ≡ word ++ found.rest)
worded_is item word text found is = found_is item word text found (after word text) refl is

-- of two that may be found, one is
pub either_found : {A : Type 0} (one other : Option A) (found : A) → option_or one other ≡ Some found
    → (one ≡ Some found) ⊎ (other ≡ Some found)
either_found None other found is = inr is
either_found (Some item) other found is = inl is

-- where nothing follows, the whole is found
pub whole_is : {A : Type 0} (found : Front A) (item : A) → whole_item found ≡ Some item
    → (found.item ≡ item) × (found.rest ≡ [])
whole_is {A} found item is = ended (length found.rest == 0) refl is
  where
    empty : (rest : List ℕ) → length rest ≡ 0 → rest ≡ []
    empty [] none = refl
    empty (character ∷ rest) none = absurd (omega (arith, none))

    ended : (b : Bool) → (length found.rest == 0) ≡ b
        → (if b then Some found.item else None) ≡ Some item
        → (found.item ≡ item) × (found.rest ≡ [])
    ended true end same =
        (same_Some found.item item same, empty found.rest (eqb-true (length found.rest) 0 end))
    ended false end same = absurd (cc)
