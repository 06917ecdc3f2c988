-- Tests of two lists side by side, by their items at places, and of lists in the order of words.
use Rattle.std.proofs.Common.{◌≡◌, ◌∙◌, ℕ, zero, suc, ◌<◌, ◌==◌, nat_lt, inl, inr, Bool, true, ◌&&◌, List, [], ◌∷◌, length, get_or, refl, ap, arith}
use Rattle.std.specs.List.{list_all, list_any, zip}
use Rattle.std.proofs.lemmas.Bool.{and_from, and_parts, eq-eqb, eqb-true, lt-ltb, ltb-true, or_cases, or_left, or_right}
use Rattle.std.proofs.lemmas.Option.{get_or_from_slice_get, slice_get-get_or, slice_get_within}
use Rattle.pls_facts.specs.Precedes.{IsAtMost}
use Rattle.pls_levels.specs.laws.Levelwise.{PassAt, some_pass, some_place}
use Rattle.pls_mst.specs.Rules.{is_at_most}

module _ {X : Type 0} (test : X → X → Bool) where
  -- the test of what stands side by side
  abbrev beside : X × X → Bool
  beside both = test both.0 both.1

  -- what all pass, that at each place does
  pub passes_at : (xs ys : List X) → list_all beside (zip xs ys) ≡ true → length ys ≡ length xs
      → (i : ℕ) (d e : X) → i < length xs → test (get_or xs i d) (get_or ys i e) ≡ true
  passes_at [] ys all many i d e within = absurd (omega (arith, within))
  passes_at (x ∷ xs) [] all many i d e within = absurd (omega (arith, many))
  passes_at (x ∷ xs) (y ∷ ys) all many zero d e within =
      (and_parts (test x y) (list_all beside (zip xs ys)) all).0
  passes_at (x ∷ xs) (y ∷ ys) all many (suc i) d e within = passes_at xs ys
      (and_parts (test x y) (list_all beside (zip xs ys)) all).1 (omega (arith, many)) i d e
      (omega (arith, within))

  -- what that at each place passes, all do
  pub all_pass : (xs ys : List X) (d e : X)
      → ((i : ℕ) → i < length xs → i < length ys → test (get_or xs i d) (get_or ys i e) ≡ true)
      → list_all beside (zip xs ys) ≡ true
  all_pass [] ys d e each = refl
  all_pass (x ∷ xs) [] d e each = refl
  all_pass (x ∷ xs) (y ∷ ys) d e each =
      and_from (test x y) (list_all beside (zip xs ys)) (each 0 (omega arith) (omega arith))
      (all_pass xs ys d e (λ i within also. each (suc i) (omega (arith, within)) (omega (arith, also))))

  -- what some pass, that at a place does
  pub passes_somewhere : (xs ys : List X) (d e : X) → list_any beside (zip xs ys) ≡ true
      → (i : ℕ) × (i < length xs) × (test (get_or xs i d) (get_or ys i e) ≡ true)
  passes_somewhere xs ys d e some =
      let found : PassAt test xs ys = some_place test xs ys some in (
        found.place,
        slice_get_within xs found.place found.one found.at,
        ap (λ (x : X). test x (get_or ys found.place e))
            (get_or_from_slice_get xs found.place found.one d found.at)
            ∙ ap (test found.one) (get_or_from_slice_get ys found.place found.other e found.there)
            ∙ found.passes,
      )

  -- what that at a place passes, some do
  pub some_passes : (xs ys : List X) (i : ℕ) (d e : X) → i < length xs → length ys ≡ length xs
      → test (get_or xs i d) (get_or ys i e) ≡ true → list_any beside (zip xs ys) ≡ true
  some_passes xs ys i d e within many passes =
      some_pass test xs ys i (get_or xs i d) (get_or ys i e) (slice_get-get_or xs i d within)
      (slice_get-get_or ys i e (omega (arith, within, many))) passes

-- the test of lists tells their order
pub IsAtMost-test : (one other : List ℕ) → is_at_most one other ≡ true → IsAtMost one other
IsAtMost-test [] [] holds = inl refl
IsAtMost-test [] (y ∷ other) holds = inr tt
IsAtMost-test (x ∷ one) [] holds = absurd (cc)
IsAtMost-test (x ∷ one) (y ∷ other) holds =
    elim (or_cases (nat_lt x y) (x == y && is_at_most one other) holds) [
      | inl less ↦ inr (inl (ltb-true x y less))
      | inr same ↦
          let parts = and_parts (x == y) (is_at_most one other) same in
          let here : x ≡ y = eqb-true x y parts.0 in
          elim (IsAtMost-test one other parts.1) [
            | inl rest ↦ inl (rw (here, rest) refl)
            | inr before ↦ inr (inr (here, before))
          ]
    ]

pub test-IsAtMost : (one other : List ℕ) → IsAtMost one other → is_at_most one other ≡ true
test-IsAtMost [] other is = refl
test-IsAtMost (x ∷ one) [] is = elim is [ inl same ↦ absurd (cc) | inr before ↦ absurd before ]
test-IsAtMost (x ∷ one) (y ∷ other) is = elim is [
  | inl same ↦
      let here : x ≡ y = cc in
      let rest : one ≡ other = cc in
      or_right (nat_lt x y) (x == y && is_at_most one other)
      (and_from (x == y) (is_at_most one other) (eq-eqb x y here) (test-IsAtMost one other (inl rest)))
  | inr before ↦ elim before [
    | inl less ↦ or_left (nat_lt x y) (x == y && is_at_most one other) (lt-ltb x y less)
    | inr same ↦ or_right (nat_lt x y) (x == y && is_at_most one other)
        (and_from (x == y) (is_at_most one other) (eq-eqb x y same.0)
        (test-IsAtMost one other (inr same.1)))
  ]
]
