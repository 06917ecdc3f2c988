-- The parts of an expression at the front of a text are read where their texts stand, and nowhere
-- else.
use Rattle.std.proofs.Common.{◌≡◌, ◌∙◌, ℕ, ◌++◌, List, codes, Option, Some, None, refl, ap, subst}
use Rattle.std.specs.Option.{option_and_then, option_map_or, option_or}
use Rattle.std.proofs.lemmas.List.{append_assoc}
use Rattle.std.proofs.lemmas.Option.{option_and_then_some}
use Rattle.pls_fronts.specs.Front.{Front, after, followed}
use Rattle.pls_fronts.specs.laws.FrontLaws.{after_is, worded_is}
use Rattle.pls_rule_text.specs.FormulaText.{one_text, two_text}
use Rattle.pls_rule_text.specs.inner.Parts.{close_front, front_map, one_front, second_front, two_front}

-- what is found stands in front, and fits
pub record Stands {A : Type 0} (text_of : A → List ℕ) (Fits : A → Type 0) (text : List ℕ)
    (found : Front A) : Type 0 where
  pub written : text ≡ text_of found.item ++ found.rest
  pub fits : Fits found.item

abbrev pub ReadsOnly : {A : Type 0} → (A → List ℕ) → (A → Type 0) → (List ℕ → Option (Front A))
    → Type 0
ReadsOnly {A} text_of Fits reads =
    (text : List ℕ) (found : Front A) → reads text ≡ Some found → Stands text_of Fits text found

-- an item stands in front, and the whole of a text behind a word with it
pub stands_as : {A : Type 0} (text_of : A → List ℕ) (Fits : A → Type 0) (text : List ℕ)
    (found : Front A) (item : A) → item ≡ found.item → text ≡ text_of item ++ found.rest → Fits item
    → Stands text_of Fits text found
stands_as text_of Fits text found item is written fits = record {
  written = written ∙ ap (λ a. text_of a ++ found.rest) is;
  fits = subst Fits is fits;
}

-- of two that may be found, one is: the first, or what comes of it, or else the other
pub first_of : {A P : Type 0} (one other : Option A) (found : A) → (one ≡ Some found → P)
    → (other ≡ Some found → P) → option_or one other ≡ Some found → P
first_of None other found here there is = there is
first_of (Some item) other found here there is = here is

pub first_made : {A B P : Type 0} (of : A → Option B) (one : Option A) (other : Option B) (found : B)
    → ((item : A) → one ≡ Some item → of item ≡ Some found → P) → (other ≡ Some found → P)
    → option_map_or of one other ≡ Some found → P
first_made of None other found here there is = there is
first_made of (Some item) other found here there is = here item refl is

-- one and two texts between parentheses, in front of more
pub one_onto : (word inner rest : List ℕ)
    → one_text word inner ++ rest ≡ word ++ (inner ++ (codes ")" ++ rest))
one_onto word inner rest =
    append_assoc word (inner ++ codes ")") rest
    ∙ ap (λ (t : List ℕ). word ++ t) (append_assoc inner (codes ")") rest)

pub two_onto : (word first second rest : List ℕ)
    → two_text word first second ++ rest
    ≡ word ++ (first ++ (codes "," ++ (second ++ (codes ")" ++ rest))))
two_onto word first second rest =
    append_assoc word (first ++ (codes "," ++ (second ++ codes ")"))) rest
    ∙ ap (λ (t : List ℕ). word ++ t)
    (append_assoc first (codes "," ++ (second ++ codes ")")) rest
    ∙ ap (λ (t : List ℕ). first ++ (codes "," ++ t)) (append_assoc second (codes ")") rest))

-- one part, and `)`
module _ {A C : Type 0} (text_of : A → List ℕ) (Fits : A → Type 0)
    (part : List ℕ → Option (Front A)) where
  pub record HasOne (of : A → C) (text : List ℕ) (found : Front C) : Type 0 where
    pub inner : A
    pub fits : Fits inner
    pub item : of inner ≡ found.item
    pub written : text ≡ text_of inner ++ (codes ")" ++ found.rest)

  pub one_is : ReadsOnly text_of Fits part → (of : A → C) (text : List ℕ) (found : Front C)
      → one_front of part text ≡ Some found → HasOne of text found
  one_is is_part of text found is =
      option_and_then_some (λ inner. close_front (front_map of inner)) (part text) found is
      (λ inner reads ends.
      let one = is_part text inner reads in
      let end = worded_is (of inner.item) (codes ")") inner.rest found ends in
      record {
        inner = inner.item;
        fits = one.fits;
        item = end.0;
        written = one.written ∙ ap (λ (t : List ℕ). text_of inner.item ++ t) end.1;
      })

  pub one_read : (of : A → C) (inner : A) (rest : List ℕ)
      → part (text_of inner ++ (codes ")" ++ rest)) ≡ Some (followed inner (codes ")" ++ rest))
      → one_front of part (text_of inner ++ (codes ")" ++ rest)) ≡ Some (followed (of inner) rest)
  one_read of inner rest reads = ap (option_and_then (λ found. close_front (front_map of found))) reads

-- two parts, `,` between them, and `)`
module _ {A B C : Type 0} (text_a : A → List ℕ) (text_b : B → List ℕ) (FitsA : A → Type 0)
    (FitsB : B → Type 0) (one : List ℕ → Option (Front A)) (other : List ℕ → Option (Front B)) where
  pub record HasTwo (of : A → B → C) (text : List ℕ) (found : Front C) : Type 0 where
    pub first : A
    pub second : B
    pub fits_first : FitsA first
    pub fits_second : FitsB second
    pub item : of first second ≡ found.item
    pub written : text ≡ text_a first ++ (codes "," ++ (text_b second ++ (codes ")" ++ found.rest)))

  pub two_is : ReadsOnly text_a FitsA one → ReadsOnly text_b FitsB other → (of : A → B → C)
      → (text : List ℕ) (found : Front C) → two_front of one other text ≡ Some found
      → HasTwo of text found
  two_is is_one is_other of text found is =
      option_and_then_some (second_front of other) (one text) found is
      (λ first reads later.
      option_and_then_some (one_front (of first.item) other) (after (codes ",") first.rest) found later
      (λ behind comma last.
      let a = is_one text first reads in
      let b = one_is text_b FitsB other is_other (of first.item) behind found last in
      record {
        first = first.item;
        second = b.inner;
        fits_first = a.fits;
        fits_second = b.fits;
        item = b.item;
        written = a.written ∙ ap (λ (t : List ℕ). text_a first.item ++ t)
            (after_is (codes ",") first.rest behind comma
            ∙ ap (λ (t : List ℕ). codes "," ++ t) b.written);
      }))

  pub two_read : (of : A → B → C) (first : A) (second : B) (rest : List ℕ)
      → one (text_a first ++ (codes "," ++ (text_b second ++ (codes ")" ++ rest))))
      ≡ Some (followed first (codes "," ++ (text_b second ++ (codes ")" ++ rest))))
      → other (text_b second ++ (codes ")" ++ rest)) ≡ Some (followed second (codes ")" ++ rest))
      → two_front of one other (text_a first ++ (codes "," ++ (text_b second ++ (codes ")" ++ rest))))
      ≡ Some (followed (of first second) rest)
  two_read of first second rest reads_first reads_second =
      ap (option_and_then (second_front of other)) reads_first
      ∙ one_read text_b FitsB other (of first) second rest reads_second
