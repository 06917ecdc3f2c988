-- What loops over places have made so far.
use Rattle.std.proofs.Common.{◌≡◌, ◌∙◌, ℕ, zero, suc, ◌+◌, ◌<◌, ◌≤◌, ◌⊎◌, inl, inr, min, Bool, true, false, List, [], ◌∷◌, ◌++◌, length, take, get_or, Option, Some, None, slice_get, refl, sym, ap, subst, arith}
use Rattle.std.specs.Option.{option_map}
use Rattle.std.proofs.lemmas.Bool.{cases_lt}
use Rattle.std.proofs.lemmas.List.{length-append, take_all, take_more}
use Rattle.std.proofs.lemmas.List.Elements.{Contains-append_left, Contains-push, Contains-push_cases}
use Rattle.std.proofs.lemmas.Option.{same_Some, slice_get_within}
use Rattle.pls_configuration.specs.declared.row.State.{State}
use Rattle.pls_configuration.specs.declared.row.NodeRow.{NodeRow}
use Rattle.pls_graph.specs.Places.{beside}
use Rattle.pls_graph.proofs.Finds.{from_option_map}
use Rattle.pls_graph.proofs.Members.{Contains-from_place, place_from_Contains}
use Rattle.pls_facts.specs.NodeCount.{AreCounted}
use Rattle.pls_scheme.specs.Marked.{AreRight}
use Rattle.pls_leader.specs.inner.Nearest.{AreNearest, IsLeast, is_level_nearer, lesser}

-- a list of so many things, of which each is right for its place
pub record AreSoFar {X : Type 0} (IsAt : ℕ → X → Type 0) (count : ℕ) (found : List X) : Type 0 where
  pub each : length found ≡ count
  pub at : (place : ℕ) (thing : X) → slice_get found place ≡ Some thing → IsAt place thing

-- what stands in a list with one thing more
push_at : {X : Type 0} (found : List X) (x : X) (place : ℕ) (y : X)
    → slice_get (found ++ x ∷ []) place ≡ Some y
    → (slice_get found place ≡ Some y) ⊎ ((place ≡ length found) × (x ≡ y))
push_at [] x zero y at = inr (refl, same_Some x y at)
push_at [] x (suc place) y at = absurd (cc)
push_at (z ∷ found) x zero y at = inl at
push_at (z ∷ found) x (suc place) y at = elim (push_at found x place y at) [
  | inl there ↦ inl there
  | inr last ↦ inr (ap suc last.0, last.1)
]

module _ {X : Type 0} (IsAt : ℕ → X → Type 0) where
  pub so_far_none : AreSoFar IsAt 0 []
  so_far_none = record { each = refl; at = λ place thing at. absurd (cc) }

  pub so_far_more : (count : ℕ) (found : List X) (thing : X) → AreSoFar IsAt count found
      → IsAt count thing → AreSoFar IsAt (count + 1) (found ++ thing ∷ [])
  so_far_more count found thing are right = record {
    each = let each = are.each in omega (arith, each, length-append found (thing ∷ []));
    at = λ place other at. elim (push_at found thing place other at) [
      | inl there ↦ are.at place other there
      | inr last ↦
          subst (λ (place : ℕ). IsAt place other) (sym (last.0 ∙ are.each))
          (subst (IsAt count) last.1 right)
    ];
  }

-- the nearest above, for so many places
abbrev pub AreNearestSoFar : List NodeRow → List ℕ → ℕ → List (Option ℕ) → Type 0
AreNearestSoFar rows levels count parents =
    AreSoFar (λ place parent. IsLeast (is_level_nearer levels place) (beside rows place) parent) count
    parents

pub all_nearest : (rows : List NodeRow) (levels : List ℕ) (parents : List (Option ℕ))
    → AreNearestSoFar rows levels (length rows) parents → AreNearest rows levels parents
all_nearest rows levels parents are = record { each = are.each; nearest = are.at }

-- what is right, for so many rows
abbrev pub AreRightSoFar : {L : Type 0} → (NodeRow → L → Type 0) → List NodeRow → ℕ → List L → Type 0
AreRightSoFar says rows count labels =
    AreSoFar (λ place label. (row : NodeRow) → slice_get rows place ≡ Some row → says row label)
    count labels

pub all_right : {L : Type 0} (says : NodeRow → L → Type 0) (rows : List NodeRow) (labels : List L)
    → AreRightSoFar says rows (length rows) labels → AreRight says rows labels
all_right says rows labels are =
    record { each = are.each; label = λ place row label at has. are.at place label has row at }

-- the numbers of so many rows are the number of nodes
abbrev pub AreCountedSoFar : List NodeRow → ℕ → Type 0
AreCountedSoFar rows count = (place : ℕ) (row : NodeRow) → place < count
    → slice_get rows place ≡ Some row → row.state.num ≡ length rows

pub all_counted_rows : (rows : List NodeRow) (count : ℕ) → length rows ≤ count
    → AreCountedSoFar rows count → AreCounted rows
all_counted_rows rows count all are row in' =
    let (place, at) : (place : ℕ) × (slice_get rows place ≡ Some row) =
    place_from_Contains rows row in' in
    are place row (omega (arith, all, slice_get_within rows place row at)) at

-- the least of the numbers that pass, with one number more
module _ (test : ℕ → Bool) (xs : List ℕ) (x : ℕ) where
  pub least_more : (found : Option ℕ) → IsLeast test xs found → test x ≡ true
      → IsLeast test (xs ++ x ∷ []) (Some (lesser found x))
  least_more None none passes = (
    Contains-push xs x,
    passes,
    λ y in' also. elim (Contains-push_cases xs x y in') [
      | inl before ↦ let no : true ≡ false = sym also ∙ none y before in absurd (cc)
      | inr last ↦ omega (arith, last)
    ],
  )
  least_more (Some least) (in', passes_least, low) passes = elim (cases_lt least x) [
    | inl less ↦
        let same : min least x ≡ least = omega (arith, less) in
        subst (λ (found : ℕ). IsLeast test (xs ++ x ∷ []) (Some found)) (sym same) (
          Contains-append_left xs (x ∷ []) least in',
          passes_least,
          λ y y_in also. elim (Contains-push_cases xs x y y_in) [
            | inl before ↦ low y before also
            | inr last ↦ omega (arith, last, less)
          ],
        )
    | inr more ↦
        let same : min least x ≡ x = omega (arith, more) in
        subst (λ (found : ℕ). IsLeast test (xs ++ x ∷ []) (Some found)) (sym same) (
          Contains-push xs x,
          passes,
          λ y y_in also. elim (Contains-push_cases xs x y y_in) [
            | inl before ↦ let past = low y before also in omega (arith, past, more)
            | inr last ↦ omega (arith, last)
          ],
        )
  ]

  pub least_same : (found : Option ℕ) → IsLeast test xs found → test x ≡ false
      → IsLeast test (xs ++ x ∷ []) found
  least_same None none fails =
      λ y in'. elim (Contains-push_cases xs x y in') [
        | inl before ↦ none y before
        | inr last ↦ ap test (sym last) ∙ fails
      ]
  least_same (Some least) (in', passes, low) fails = (
    Contains-append_left xs (x ∷ []) least in',
    passes,
    λ y y_in also. elim (Contains-push_cases xs x y y_in) [
      | inl before ↦ low y before also
      | inr last ↦
          let no : true ≡ false = sym also ∙ ap test (sym last) ∙ fails in absurd (cc)
    ],
  )

-- so with the next of a list
module _ (test : ℕ → Bool) (xs : List ℕ) (i : ℕ) (within : i < length xs) where
  pub least_next : (found : Option ℕ) → IsLeast test (take i xs) found
      → test (get_or xs i 0) ≡ true
      → IsLeast test (take (i + 1) xs) (Some (lesser found (get_or xs i 0)))
  least_next found least passes =
      subst (λ (xs' : List ℕ). IsLeast test xs' (Some (lesser found (get_or xs i 0))))
      (sym (take_more xs i 0 within)) (least_more test (take i xs) (get_or xs i 0) found least passes)

  pub least_stays : (found : Option ℕ) → IsLeast test (take i xs) found
      → test (get_or xs i 0) ≡ false → IsLeast test (take (i + 1) xs) found
  least_stays found least fails =
      subst (λ (xs' : List ℕ). IsLeast test xs' found) (sym (take_more xs i 0 within))
      (least_same test (take i xs) (get_or xs i 0) found least fails)

-- the number in the state at a place
module _ (rows : List NodeRow) (place : ℕ) (state : State)
    (at : option_map (λ (row : NodeRow). row.state) (slice_get rows place) ≡ Some state) where
  pub counted_state : AreCounted rows → state.num ≡ length rows
  counted_state counted =
      let (row, here, is) : (row : NodeRow) × (slice_get rows place ≡ Some row)
      × (row.state ≡ state) =
      from_option_map (λ (row : NodeRow). row.state) (slice_get rows place) state at in
      ap (λ (state : State). state.num) (sym is)
      ∙ counted row (Contains-from_place rows place row here)

  pub counted_next : AreCountedSoFar rows place → state.num ≡ length rows
      → AreCountedSoFar rows (place + 1)
  counted_next before is other row within here = elim (cases_lt other place) [
    | inl less ↦ before other row less here
    | inr more ↦
        let same : other ≡ place = omega (arith, within, more) in
        let (found, there, shown) : (row : NodeRow) × (slice_get rows place ≡ Some row)
        × (row.state ≡ state) =
        from_option_map (λ (row : NodeRow). row.state) (slice_get rows place) state at in
        let one : row ≡ found = same_Some row found
        (sym here ∙ ap (slice_get rows) same ∙ there) in
        ap (λ (row : NodeRow). row.state.num) one ∙ ap (λ (state : State). state.num) shown ∙ is
  ]

-- what is found of all of a list
pub take_whole : (test : ℕ → Bool) (xs : List ℕ) (i : ℕ) (found : Option ℕ) → length xs ≤ i
    → IsLeast test (take i xs) found → IsLeast test xs found
take_whole test xs i found past least =
    subst (λ (xs : List ℕ). IsLeast test xs found) (take_all i xs past) least
