-- A search by weights: what it has found, and what stands ahead.
use Rattle.std.proofs.Common.{◌≡◌, ◌∙◌, ℕ, ◌+◌, ◌*◌, ◌^◌, ◌<◌, ◌≤◌, ◌⊎◌, inl, inr, false, cond, List, [], ◌∷◌, length, set, replicate, count_by, Contains, IsPermutation, slice_get, slice_index_or, is_some, is_none, Option, Some, None, refl, sym, ap, subst, arith}
use Rattle.std.proofs.lemmas.List.{length-replicate}
use Rattle.std.proofs.lemmas.List.Sorted.{Contains-permutation, IsPermutation-sym}
use Rattle.std.proofs.lemmas.List.Sums.{count_by-le-length, sum_by-set}
use Rattle.std.proofs.lemmas.Option.{same_Some}
use Rattle.pls_configuration.specs.declared.row.Port.{Port}
use Rattle.pls_configuration.specs.declared.row.NodeRow.{NodeRow}
use Rattle.pls_configuration.specs.Configuration.{IsNetwork}
use Rattle.pls_configuration.specs.Walk.{Walk, edges_of}
use Rattle.pls_graph.specs.Places.{place_in}
use Rattle.pls_graph.proofs.Finds.{None-is_some, None-replicate}
use Rattle.pls_graph.proofs.Members.{Contains-cons_cases, Contains-first, Contains-later}
use Rattle.pls_facts.specs.Weight.{walk_weight}
use Rattle.pls_search.specs.inner.Ahead.{Ahead, reached_by}
use Rattle.pls_search.specs.inner.Noting.{IsNoted}

-- a walk from u to v weighs so much
abbrev pub WalkWeighs : List NodeRow → ℕ → ℕ → ℕ → Type 0
WalkWeighs rows u v weight =
    (nodes : List ℕ) × Walk (edges_of rows) u nodes v × (walk_weight rows u nodes ≡ weight)

-- the place is found, or stands ahead, with at most this weight
abbrev pub IsReached : List (Option ℕ) → List Ahead → ℕ → ℕ → Type 0
IsReached found ahead place most =
    ((weight : ℕ) × IsNoted found place weight × (weight ≤ most))
    ⊎ ((entry : Ahead) × Contains ahead entry × (entry.0.1 ≡ place) × (entry.0.0 ≤ most))

-- what is found and what stands ahead are weights of walks; what is found is at most what stands
-- ahead; and the neighbours of what is found are reached
pub record Reaching (rows : List NodeRow) (root : ℕ) (found : List (Option ℕ))
    (ahead : List Ahead) : Type 0 where
  pub size : length found ≡ length rows
  pub start : IsReached found ahead root 0
  pub walk : (first row : NodeRow) (place weight : ℕ) → slice_get rows root ≡ Some first
      → slice_get rows place ≡ Some row → IsNoted found place weight
      → WalkWeighs rows first.id row.id weight
  pub onward : (first row : NodeRow) (entry : Ahead) → slice_get rows root ≡ Some first
      → slice_get rows entry.0.1 ≡ Some row → Contains ahead entry
      → WalkWeighs rows first.id row.id entry.0.0
  pub within : (entry : Ahead) → Contains ahead entry → entry.0.1 < length rows
  pub ordered : (place weight : ℕ) (entry : Ahead) → IsNoted found place weight
      → Contains ahead entry → weight ≤ entry.0.0
  pub small : (entry : Ahead) → Contains ahead entry
      → entry.0.0 + count_by is_none found * 2 ^ 32 ≤ length rows * 2 ^ 32
  pub closed : (place weight : ℕ) (row : NodeRow) (port : Port) → IsNoted found place weight
      → slice_get rows place ≡ Some row → Contains row.ports port
      → IsReached found ahead (place_in rows port.nbr) (weight + port.weight)

-- nothing stands ahead
pub no_entry : {A X : Type 0} (x : X) → Contains [] x → A
no_entry x in' = absurd (omega (arith, in'.1))

module _ (rows : List NodeRow) (net : IsNetwork rows) (root : ℕ) where
  -- the root alone
  pub Reaching-first : root < length rows → (ahead : List Ahead)
      → IsPermutation (reached_by 0 root ∷ []) ahead
      → Reaching rows root (replicate (length rows) None) ahead
  Reaching-first within ahead shuffled = record {
    size = length-replicate {A = Option ℕ} (length rows) None;
    start = inr (reached_by 0 root, alone, refl, omega arith);
    walk = λ first row place weight at here is. nothing place weight is;
    onward = λ first row entry at here in'.
        let same : reached_by 0 root ≡ entry = only entry in' in
        let one : first ≡ row =
        same_Some first row
        (sym at ∙ ap (λ (entry : Ahead). slice_get rows entry.0.1) same ∙ here) in
        ([], ap (λ (row : NodeRow). row.id) one, ap (λ (entry : Ahead). entry.0.0) same);
    within = λ entry in'.
        subst (λ (entry : Ahead). entry.0.1 < length rows) (only entry in') within;
    ordered = λ place weight entry is in'. nothing place weight is;
    small = λ entry in'.
        let none : 0 ≡ entry.0.0 = ap (λ (entry : Ahead). entry.0.0) (only entry in') in
        let all = count_by-le-length is_none (replicate {A = Option ℕ} (length rows) None) in
        omega (arith, none, all, length-replicate {A = Option ℕ} (length rows) None);
    closed = λ place weight row port is at has. nothing place weight is;
  }
    where
      nothing : {A : Type 0} (place weight : ℕ)
          → IsNoted (replicate (length rows) None) place weight → A
      nothing place weight is = absurd (None-replicate (length rows) place weight is)

      alone : Contains ahead (reached_by 0 root)
      alone = Contains-permutation (reached_by 0 root ∷ []) ahead (reached_by 0 root) shuffled
          (Contains-first (reached_by 0 root) [])

      only : (entry : Ahead) → Contains ahead entry → reached_by 0 root ≡ entry
      only entry in' =
          elim (Contains-cons_cases (reached_by 0 root) [] entry
          (Contains-permutation ahead (reached_by 0 root ∷ []) entry
          (IsPermutation-sym (reached_by 0 root ∷ []) ahead shuffled) in'))
          [ inl same ↦ same | inr none ↦ no_entry entry none ]

  module _ (found : List (Option ℕ)) (old : List Ahead) (first : Ahead) (rest : List Ahead)
      (shuffled : IsPermutation old (first ∷ rest)) (before : Reaching rows root found old) where
    -- what is left stood ahead
    pub was : (entry : Ahead) → Contains rest entry → Contains old entry
    was entry in' = Contains-permutation (first ∷ rest) old entry
        (IsPermutation-sym old (first ∷ rest) shuffled) (Contains-later first rest entry in')

    -- the first one stood ahead
    pub first_was : Contains old first
    first_was = Contains-permutation (first ∷ rest) old first
        (IsPermutation-sym old (first ∷ rest) shuffled) (Contains-first first rest)

    -- its place is that of a row
    pub first_within : first.0.1 < length rows
    first_within = before.within first first_was

    -- once it is found, one place fewer is left to find
    pub fewer_left : is_some (slice_index_or found first.0.1 None) ≡ false
        → count_by is_none (set found first.0.1 (Some first.0.0)) + 1 ≡ count_by is_none found
    fewer_left none =
        let later : List (Option ℕ) = set found first.0.1 (Some first.0.0) in
        let within : first.0.1 < length found = omega (arith, first_within, before.size) in
        let blank : slice_index_or found first.0.1 None ≡ None =
        None-is_some (slice_index_or found first.0.1 None) none in
        let sum : count_by is_none later
        + cond (is_none (slice_index_or found first.0.1 None)) 1 0 ≡ count_by is_none found + 0 =
        sum_by-set (λ entry. cond (is_none entry) 1 0) found first.0.1 (Some first.0.0) None
        within in
        let one : count_by is_none later + 1 ≡ count_by is_none found + 0 = rw blank at sum in
        omega (arith, one)

    -- what stood ahead is the first, or is left
    pub left : (entry : Ahead) → Contains old entry → (first ≡ entry) ⊎ Contains rest entry
    left entry in' = Contains-cons_cases first rest entry
        (Contains-permutation old (first ∷ rest) entry shuffled in')

    -- the place of the first is found already
    pub Reaching-passed : (known : ℕ) → IsNoted found first.0.1 known
        → Reaching rows root found rest
    Reaching-passed known is = record {
      size = before.size;
      start = still root 0 before.start;
      walk = before.walk;
      onward = λ first row entry at here in'. before.onward first row entry at here (was entry in');
      within = λ entry in'. before.within entry (was entry in');
      ordered = λ place weight entry noted in'.
          before.ordered place weight entry noted (was entry in');
      small = λ entry in'. before.small entry (was entry in');
      closed = λ place weight row port noted at has. still (place_in rows port.nbr)
          (weight + port.weight) (before.closed place weight row port noted at has);
    }
      where
        still : (place most : ℕ) → IsReached found old place most → IsReached found rest place most
        still place most (inl noted) = inl noted
        still place most (inr (entry, in', is_place, few)) = elim (left entry in') [
          | inl same ↦
              let here : first.0.1 ≡ place = ap (λ (entry : Ahead). entry.0.1) same ∙ is_place in
              let less = before.ordered first.0.1 known first is first_was in
              let light : first.0.0 ≡ entry.0.0 = ap (λ (entry : Ahead). entry.0.0) same in
              inl (
                known,
                subst (λ (place : ℕ). IsNoted found place known) here is,
                omega (arith, less, light, few),
              )
          | inr later ↦ inr (entry, later, is_place, few)
        ]
