-- How many places of a list have items that pass a test.
use Rattle.std.proofs.Common.{◌≡◌, ◌∙◌, ℕ, zero, suc, ◌+◌, ◌<◌, inl, inr, Bool, true, false, cond, List, [], ◌∷◌, length, get_or, map, Contains, refl, sym, ap, subst, arith}
use Rattle.std.specs.List.{filter}
use Rattle.std.proofs.lemmas.List.{length-map}
use Rattle.pls_graph.proofs.Members.{Contains-cons_cases, Contains-first, Contains-from_map, Contains-later, Contains-map}
use Rattle.pls_facts.specs.Parents.{AreSoMany}
use Rattle.pls_facts.specs.SpanningTree.{AreDistinct}
use Rattle.pls_facts.proofs.Distinct.{AreDistinct-cons, AreDistinct-first, AreDistinct-nil, AreDistinct-rest}
use Rattle.pls_facts.proofs.ParentLines.{AreSoMany-one}

-- the places of a list at which items pass
abbrev places_of : (ℕ → Bool) → List ℕ → List ℕ
places_of test [] = []
places_of test (x ∷ xs) =
    cond (test x) (0 ∷ map (λ (n : ℕ). n + 1) (places_of test xs))
    (map (λ (n : ℕ). n + 1) (places_of test xs))

-- places one further on are distinct
raised_distinct : (xs : List ℕ) → AreDistinct xs → AreDistinct (map (λ (n : ℕ). n + 1) xs)
raised_distinct [] distinct = AreDistinct-nil
raised_distinct (x ∷ xs) distinct = AreDistinct-cons (x + 1) (map (λ (n : ℕ). n + 1) xs)
    (λ in'. let (y, there, is) : (y : ℕ) × Contains xs y × (y + 1 ≡ x + 1) =
    Contains-from_map (λ (n : ℕ). n + 1) xs (x + 1) in' in
    AreDistinct-first x xs distinct (let same : y ≡ x = omega (arith, is) in
    subst (Contains xs) same there))
    (raised_distinct xs (AreDistinct-rest x xs distinct))

-- 0 is none of these
raised_some : (xs : List ℕ) → Contains (map (λ (n : ℕ). n + 1) xs) 0 → ⊥
raised_some xs in' =
    let (y, there, is) : (y : ℕ) × Contains xs y × (y + 1 ≡ 0) =
    Contains-from_map (λ (n : ℕ). n + 1) xs 0 in' in
    omega (arith, is)

places_distinct : (test : ℕ → Bool) (xs : List ℕ) → AreDistinct (places_of test xs)
places_distinct test [] = AreDistinct-nil
places_distinct test (x ∷ xs) = by (test x)
    (raised_distinct (places_of test xs) (places_distinct test xs))
  where
    by : (b : Bool) → AreDistinct (map (λ (n : ℕ). n + 1) (places_of test xs))
        → AreDistinct (cond b (0 ∷ map (λ (n : ℕ). n + 1) (places_of test xs))
        (map (λ (n : ℕ). n + 1) (places_of test xs)))
    by true rest = AreDistinct-cons 0 (map (λ (n : ℕ). n + 1) (places_of test xs))
        (raised_some (places_of test xs)) rest
    by false rest = rest

places_many : (test : ℕ → Bool) (xs : List ℕ)
    → length (places_of test xs) ≡ length (filter test xs)
places_many test [] = refl
places_many test (x ∷ xs) = by (test x) (places_many test xs)
    (length-map (places_of test xs) (λ (n : ℕ). n + 1))
  where
    by : (b : Bool) → length (places_of test xs) ≡ length (filter test xs)
        → length (map (λ (n : ℕ). n + 1) (places_of test xs)) ≡ length (places_of test xs)
        → length (cond b (0 ∷ map (λ (n : ℕ). n + 1) (places_of test xs))
        (map (λ (n : ℕ). n + 1) (places_of test xs)))
        ≡ length (cond b (x ∷ filter test xs) (filter test xs))
    by true rest all = omega (arith, rest, all)
    by false rest all = omega (arith, rest, all)

places_to : (test : ℕ → Bool) (xs : List ℕ) (p : ℕ) → Contains (places_of test xs) p
    → (p < length xs) × (test (get_or xs p 0) ≡ true)
places_to test [] p in' = absurd (omega (arith, in'.1))
places_to test (x ∷ xs) p in' = by (test x) refl in' (places_to test xs)
  where
    later : (p : ℕ) → Contains (map (λ (n : ℕ). n + 1) (places_of test xs)) p
        → ((p : ℕ) → Contains (places_of test xs) p
        → (p < length xs) × (test (get_or xs p 0) ≡ true))
        → (p < length (x ∷ xs)) × (test (get_or (x ∷ xs) p 0) ≡ true)
    later zero in' rest = absurd (raised_some (places_of test xs) in')
    later (suc p) in' rest =
        let (y, there, is) : (y : ℕ) × Contains (places_of test xs) y × (y + 1 ≡ suc p) =
        Contains-from_map (λ (n : ℕ). n + 1) (places_of test xs) (suc p) in' in
        let same : y ≡ p = omega (arith, is) in
        let found = rest p (subst (Contains (places_of test xs)) same there) in
        (omega (arith, found.0), found.1)

    by : (b : Bool) → test x ≡ b
        → Contains (cond b (0 ∷ map (λ (n : ℕ). n + 1) (places_of test xs))
        (map (λ (n : ℕ). n + 1) (places_of test xs))) p
        → ((p : ℕ) → Contains (places_of test xs) p
        → (p < length xs) × (test (get_or xs p 0) ≡ true))
        → (p < length (x ∷ xs)) × (test (get_or (x ∷ xs) p 0) ≡ true)
    by true e in' rest =
        elim (Contains-cons_cases 0 (map (λ (n : ℕ). n + 1) (places_of test xs)) p in') [
          | inl same ↦ (
            omega (arith, same),
            ap (λ (p : ℕ). test (get_or (x ∷ xs) p 0)) (sym same) ∙ e,
          )
          | inr there ↦ later p there rest
        ]
    by false e in' rest = later p in' rest

places_from : (test : ℕ → Bool) (xs : List ℕ) (p : ℕ) → p < length xs
    → test (get_or xs p 0) ≡ true → Contains (places_of test xs) p
places_from test [] p within passes = absurd (omega (arith, within))
places_from test (x ∷ xs) zero within passes =
    rw passes (Contains-first 0 (map (λ (n : ℕ). n + 1) (places_of test xs)))
places_from test (x ∷ xs) (suc p) within passes = by (test x)
    (let same : p + 1 ≡ suc p = omega arith in
    subst (Contains (map (λ (n : ℕ). n + 1) (places_of test xs))) same
    (Contains-map (λ (n : ℕ). n + 1) (places_of test xs) p
    (places_from test xs p (omega (arith, within)) passes)))
  where
    by : (b : Bool) → Contains (map (λ (n : ℕ). n + 1) (places_of test xs)) (suc p)
        → Contains (cond b (0 ∷ map (λ (n : ℕ). n + 1) (places_of test xs))
        (map (λ (n : ℕ). n + 1) (places_of test xs))) (suc p)
    by true in' = Contains-later 0 (map (λ (n : ℕ). n + 1) (places_of test xs)) (suc p) in'
    by false in' = in'

-- so many places have items that pass as the filter keeps
pub many_places : (test : ℕ → Bool) (xs : List ℕ)
    → AreSoMany (λ p. (p < length xs) × (test (get_or xs p 0) ≡ true)) (length (filter test xs))
many_places test xs = record {
  all = places_of test xs;
  distinct = places_distinct test xs;
  many = places_many test xs;
  are = λ p. (places_to test xs p, λ such. places_from test xs p such.0 such.1);
}

-- what has the same items is as many
pub as_many : (Such Same : ℕ → Type 0) (one other : ℕ) → ((p : ℕ) → Such p → Same p)
    → ((p : ℕ) → Same p → Such p) → AreSoMany Such one → AreSoMany Same other → one ≡ other
as_many Such Same one other there back first second =
    AreSoMany-one Same one other (record {
      all = first.all;
      distinct = first.distinct;
      many = first.many;
      are = λ p. (λ in'. there p ((first.are p).0 in'), λ same. (first.are p).1 (back p same));
    }) second
