-- What holds of each character of a text is a test of each.
use Rattle.std.proofs.Common.{◌≡◌, ◌⊎◌, inl, inr, ℕ, ◌||◌, All, Bool, true, false, List, [], ◌∷◌, refl}
use Rattle.std.specs.List.{list_all}
use Rattle.std.proofs.lemmas.Bool.{and_from, and_parts}
use Rattle.std.proofs.lemmas.List.Elements.{All-cons, All-head, All-nil, All-tail}

module _ (P : ℕ → Type 0) (test : ℕ → Bool) where
  pub all_tested : ((character : ℕ) → test character ≡ true → P character) → (text : List ℕ)
      → list_all test text ≡ true → All P text
  all_tested holds [] is = All-nil P
  all_tested holds (character ∷ text) is =
      let both = and_parts (test character) (list_all test text) is in
      All-cons P character text (holds character both.0) (all_tested holds text both.1)

  pub tested_all : ((character : ℕ) → P character → test character ≡ true) → (text : List ℕ)
      → All P text → list_all test text ≡ true
  tested_all passes [] is = refl
  tested_all passes (character ∷ text) is =
      and_from (test character) (list_all test text) (passes character (All-head P character text is))
      (tested_all passes text (All-tail P character text is))

-- one of two tests
pub one_of_both : (a b : Bool) → (a || b) ≡ true → (a ≡ true) ⊎ (b ≡ true)
one_of_both true b is = inl refl
one_of_both false b is = inr is

pub first_passes : (a b : Bool) → a ≡ true → (a || b) ≡ true
first_passes true b is = refl
first_passes false b is = absurd (cc)

pub second_passes : (a b : Bool) → b ≡ true → (a || b) ≡ true
second_passes true b is = refl
second_passes false b is = is

-- what fails does not pass
pub no_truth : false ≡ true → ⊥
no_truth is = absurd (cc)
