-- How many items of a list pass a test, beside those that pass others.
use Rattle.std.proofs.Common.{◌≡◌, ◌∙◌, ◌+◌, ◌<◌, ◌≤◌, ◌⊎◌, inl, inr, Bool, true, false, ◌&&◌, cond, List, [], ◌∷◌, length, Contains, refl, sym, ap, arith}
use Rattle.std.specs.List.{filter, list_all}
use Rattle.std.proofs.lemmas.Bool.{true≢false}
use Rattle.pls_graph.proofs.Members.{Contains-cons_cases, Contains-first, Contains-later}
use Rattle.pls_centroid.proofs.Few.{filter-more}

module _ {X : Type 0} where
  -- what not all pass, some item does not
  pub some_fails : (test : X → Bool) (xs : List X) → list_all test xs ≡ false
      → (x : X) × Contains xs x × (test x ≡ false)
  some_fails test [] fails = absurd (cc)
  some_fails test (x ∷ xs) fails = by (test x) refl fails (some_fails test xs)
    where
      by : (b : Bool) → test x ≡ b → (b && list_all test xs) ≡ false
          → (list_all test xs ≡ false → (y : X) × Contains xs y × (test y ≡ false))
          → (y : X) × Contains (x ∷ xs) y × (test y ≡ false)
      by false e fails rest = (x, Contains-first x xs, e)
      by true e fails rest = let (y, in', is) : (y : X) × Contains xs y × (test y ≡ false) =
          rest fails in (y, Contains-later x xs y in', is)

  -- two tests that exclude each other keep no more together than one that both imply
  pub filter-apart : (p q r : X → Bool) (xs : List X)
      → ((x : X) → Contains xs x → p x ≡ true → r x ≡ true)
      → ((x : X) → Contains xs x → q x ≡ true → r x ≡ true)
      → ((x : X) → Contains xs x → p x ≡ true → q x ≡ true → ⊥)
      → length (filter p xs) + length (filter q xs) ≤ length (filter r xs)
  filter-apart p q r [] first second apart = omega arith
  filter-apart p q r (x ∷ xs) first second apart = by (p x) (q x) (r x) refl refl refl
      (filter-apart p q r xs (λ y in'. first y (Contains-later x xs y in'))
      (λ y in'. second y (Contains-later x xs y in'))
      (λ y in'. apart y (Contains-later x xs y in')))
    where
      here : Contains (x ∷ xs) x
      here = Contains-first x xs

      by : (a b c : Bool) → p x ≡ a → q x ≡ b → r x ≡ c
          → length (filter p xs) + length (filter q xs) ≤ length (filter r xs)
          → length (cond a (x ∷ filter p xs) (filter p xs))
          + length (cond b (x ∷ filter q xs) (filter q xs))
          ≤ length (cond c (x ∷ filter r xs) (filter r xs))
      by true true c is also e rest = absurd (apart x here is also)
      by true false true is also e rest = omega (arith, rest)
      by true false false is also e rest = absurd (true≢false (sym (first x here is) ∙ e))
      by false true true is also e rest = omega (arith, rest)
      by false true false is also e rest = absurd (true≢false (sym (second x here also) ∙ e))
      by false false true is also e rest = omega (arith, rest)
      by false false false is also e rest = rest

  -- where one test or the other passes whatever a third does, they keep no fewer together
  pub filter-cover : (p q r : X → Bool) (xs : List X)
      → ((x : X) → Contains xs x → r x ≡ true → (p x ≡ true) ⊎ (q x ≡ true))
      → length (filter r xs) ≤ length (filter p xs) + length (filter q xs)
  filter-cover p q r [] covers = omega arith
  filter-cover p q r (x ∷ xs) covers = by (p x) (q x) (r x) refl refl refl
      (filter-cover p q r xs (λ y in'. covers y (Contains-later x xs y in')))
    where
      by : (a b c : Bool) → p x ≡ a → q x ≡ b → r x ≡ c
          → length (filter r xs) ≤ length (filter p xs) + length (filter q xs)
          → length (cond c (x ∷ filter r xs) (filter r xs))
          ≤ length (cond a (x ∷ filter p xs) (filter p xs))
          + length (cond b (x ∷ filter q xs) (filter q xs))
      by true true true is also e rest = omega (arith, rest)
      by true true false is also e rest = omega (arith, rest)
      by true false true is also e rest = omega (arith, rest)
      by true false false is also e rest = omega (arith, rest)
      by false true true is also e rest = omega (arith, rest)
      by false true false is also e rest = omega (arith, rest)
      by false false false is also e rest = rest
      by false false true is also e rest = elim (covers x (Contains-first x xs) e) [
        | inl passes ↦ absurd (true≢false (sym passes ∙ is))
        | inr passes ↦ absurd (true≢false (sym passes ∙ also))
      ]

  -- a test that some item more passes keeps more
  pub filter-less : (p q : X → Bool) (xs : List X) (x : X)
      → ((y : X) → Contains xs y → p y ≡ true → q y ≡ true) → Contains xs x → p x ≡ false
      → q x ≡ true → length (filter p xs) < length (filter q xs)
  filter-less p q [] x weaker in' fails passes = absurd (omega (arith, in'.1))
  filter-less p q (first ∷ xs) x weaker in' fails passes =
      elim (Contains-cons_cases first xs x in') [
        | inl same ↦
            let rest = filter-more p q xs (λ y in'. weaker y (Contains-later first xs y in')) in
            let off : p first ≡ false = ap p same ∙ fails in
            let on : q first ≡ true = ap q same ∙ passes in
            rw (off, on) (omega (arith, rest))
        | inr later ↦ by (p first) (q first) refl refl
            (filter-less p q xs x (λ y in'. weaker y (Contains-later first xs y in')) later fails
            passes)
      ]
    where
      by : (a b : Bool) → p first ≡ a → q first ≡ b
          → length (filter p xs) < length (filter q xs)
          → length (cond a (first ∷ filter p xs) (filter p xs))
          < length (cond b (first ∷ filter q xs) (filter q xs))
      by true true is also rest = omega (arith, rest)
      by true false is also rest =
          absurd (true≢false (sym (weaker first (Contains-first first xs) is) ∙ also))
      by false true is also rest = omega (arith, rest)
      by false false is also rest = rest
