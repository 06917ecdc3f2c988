-- The levels that are kept while a label is read.
use Rattle.std.proofs.Common.{◌≡◌, ◌∙◌, ℕ, ◌+◌, ◌≤◌, ◌<◌, ◌==◌, ◌&&◌, ◌⊎◌, nat_lt, ◌∷◌, inl, inr, if◌then◌else◌, true, false, Bool, List, length, drop, set, refl, subst, sym, ap, arith}
use Rattle.std.proofs.lemmas.Bool.{and_from, and_parts, cases_Bool, cases_lt, eq-eqb, eqb-true, lt-ltb, ltb-true, true≢false}
use Rattle.std.proofs.lemmas.List.{drop_all}
use Rattle.pls_centroid.specs.declared.level.CentroidLevel.{CentroidLevel}
use Rattle.pls_levels.proofs.KeptFronts.{IsKept, front-next, none_fits, none_left}
use Rattle.pls_pathmax.specs.declared.kept_level.KeptLevel.{KeptLevel}
use Rattle.pls_pathmax.specs.inner.Glance.{IsFront, front_with, is_kept_too, kept_with}
use Rattle.pls_pathmax.specs.inner.KeptLevel.{fits, kept_form, kept_of}

-- of so many levels that stand first all are kept, or of all levels those before one that is not
abbrev pub AreKeptSoFar : ℕ → ℕ → ℕ → List KeptLevel → List CentroidLevel → Type 0
AreKeptSoFar N number kept front levels =
    ((kept ≡ number) × (number ≤ N)
    × IsKept kept_form N number front levels (drop number levels))
    ⊎ (IsFront N kept front levels × (kept < number))

module _ (N : ℕ) (levels : List CentroidLevel) (number : ℕ) (level : CentroidLevel)
    (next : drop number levels ≡ level ∷ drop (number + 1) levels) where
  -- where all so far are kept
  module _ (front : List KeptLevel) (few : number ≤ N)
      (is : IsKept kept_form N number front levels (drop number levels)) where
    led : IsKept kept_form N number front levels (level ∷ drop (number + 1) levels)
    led = subst (IsKept kept_form N number front levels) next is

    -- the next one is not where there is no more room, or it does not fit
    not_one_more : is_kept_too N number number level ≡ false → IsFront N number front levels
    not_one_more not = elim (cases_lt number N) [
      | inr full ↦ none_left kept_form N number front levels (drop number levels) is few
          (λ less. absurd (omega (arith, less, full)))
      | inl room ↦ elim (cases_Bool (fits level)) [
        | inr wide ↦ none_fits kept_form N number front levels level
            (drop (number + 1) levels) led few wide
        | inl short ↦ absurd (true≢false (sym (and_from (number == number)
            (nat_lt number N && fits level) (eq-eqb number number refl)
            (and_from (nat_lt number N) (fits level) (lt-ltb number N room) short))
            ∙ not))
      ]
    ]

  module _ (kept : ℕ) (front : List KeptLevel) (so_far : AreKeptSoFar N number kept front levels)
    where
      -- with the next one, which is kept or not
      abbrev IsSoWith : Bool → Type 0
      IsSoWith too = AreKeptSoFar N (number + 1) (if too then kept + 1 else kept)
          (if too then set front kept (kept_of level) else front) levels

      with_it : is_kept_too N kept number level ≡ true → IsSoWith true
      with_it is =
          let parts = and_parts (number == kept) (nat_lt number N && fits level) is in
          let here : number ≡ kept = eqb-true number kept parts.0 in
          let more = and_parts (nat_lt number N) (fits level) parts.1 in
          let room : number < N = ltb-true number N more.0 in
          elim so_far [
            | inr stopped ↦ absurd (omega (arith, here, stopped.1))
            | inl going ↦ inl (
              omega (arith, here),
              omega (arith, room),
              subst (λ (place : ℕ). IsKept kept_form N (number + 1)
                  (set front place (kept_of level)) levels (drop (number + 1) levels)) here
                  (front-next kept_form N number front levels level (drop (number + 1) levels)
                  (kept_of level) room (led front going.1 going.2) more.1 refl),
            )
          ]

      without_it : is_kept_too N kept number level ≡ false → IsSoWith false
      without_it not = elim so_far [
        | inr stopped ↦ inr (stopped.0, omega (arith, stopped.1))
        | inl going ↦
            let front_is : IsFront N number front levels = not_one_more front going.1 going.2
            (ap (λ (kept : ℕ). is_kept_too N kept number level) (sym going.0) ∙ not) in
            inr ((going.0 ∙ front_is.0, front_is.1), omega (arith, going.0))
      ]

      pub one_more : (now : ℕ) (with_next : List KeptLevel) → now ≡ kept_with N kept number level
          → with_next ≡ front_with N kept number level front
          → AreKeptSoFar N (number + 1) now with_next levels
      one_more now with_next now_is front_is =
          rw (now_is, front_is) (elim (cases_Bool (is_kept_too N kept number level)) [
            | inl too ↦ subst IsSoWith (sym too) (with_it too)
            | inr not ↦ subst IsSoWith (sym not) (without_it not)
          ])

-- of all
pub all_so_far : (N : ℕ) (levels : List CentroidLevel) (number kept : ℕ) (front : List KeptLevel)
    → length levels ≡ number → AreKeptSoFar N number kept front levels → IsFront N kept front levels
all_so_far N levels number kept front all so_far = elim so_far [
  | inr stopped ↦ stopped.0
  | inl going ↦
      let front_is : IsFront N number front levels =
      none_left kept_form N number front levels (drop number levels) going.2 going.1
      (λ less. drop_all number levels (omega (arith, all))) in
      (going.0 ∙ front_is.0, front_is.1)
]
