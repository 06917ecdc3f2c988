-- One who goes round a ring, never back at once, meets each node once and comes home.
use Rattle.std.proofs.Common.{◌≡◌, ◌≢◌, ◌∙◌, ℕ, zero, suc, ◌<◌, ◌≤◌, ◌⊎◌, inl, inr, false, Bool, ◌==◌, if◌then◌else◌, List, ◌∷◌, length, get_or, slice_get, All, Contains, refl, sym, ap, subst, arith}
use Rattle.std.proofs.lemmas.Bool.{cases_eq, cases_order, eq-eqb, ne_eqb}
use Rattle.std.proofs.lemmas.List.FromFn.{get_or-range_with_len, length-range_with_len}
use Rattle.std.specs.List.{range_with_len}
use Rattle.pls_configuration.specs.declared.row.NodeRow.{NodeRow}
use Rattle.pls_configuration.specs.Configuration.{IsNetwork}
use Rattle.pls_graph.specs.Places.{beside}
use Rattle.pls_graph.proofs.Members.{Contains-from_place}
use Rattle.pls_facts.specs.SpanningTree.{AreDistinct}
use Rattle.pls_facts.proofs.Distinct.{AreDistinct-cons, decide_Contains}
use Rattle.pls_facts.proofs.Fewer.{length-part}
use Rattle.pls_components.proofs.Apart.{beside_turned}
use Rattle.pls_splice.specs.Ring.{IsRing}
use Rattle.pls_splice.specs.inner.Round.{onward, places_from}
use Rattle.pls_splice.proofs.Turning.{HasTwo, before, has_two, neighbour_within, not_itself, only_two}

-- the place where one is after so many steps
abbrev pub place_after : List NodeRow → ℕ → ℕ → ℕ → ℕ
place_after rows here before zero = here
place_after rows here before (suc count) = place_after rows (onward rows here before) here count

pub length-places_from : (rows : List NodeRow) (here before count : ℕ)
    → length (places_from rows here before count) ≡ count
length-places_from rows here before zero = refl
length-places_from rows here before (suc count) =
    ap suc (length-places_from rows (onward rows here before) here count)

pub get_or-places_from : (rows : List NodeRow) (here before count k d : ℕ) → k < count
    → get_or (places_from rows here before count) k d ≡ place_after rows here before k
get_or-places_from rows here before zero k d less = absurd (omega arith)
get_or-places_from rows here before (suc count) zero d less = refl
get_or-places_from rows here before (suc count) (suc k) d less =
    get_or-places_from rows (onward rows here before) here count k d (omega arith)

-- each step but the first is from the place before on, away from the one before that
step_after : (rows : List NodeRow) (here before k : ℕ)
    → place_after rows here before (suc (suc k))
    ≡ onward rows (place_after rows here before (suc k)) (place_after rows here before k)
step_after rows here before zero = refl
step_after rows here before (suc k) = step_after rows (onward rows here before) here k

-- a list of different numbers below its length has them all
pub has_all : (numbers : List ℕ) → AreDistinct numbers
    → All (λ (number : ℕ). number < length numbers) numbers → (x : ℕ) → x < length numbers
    → Contains numbers x
has_all numbers distinct within x less = elim (decide_Contains cases_eq numbers x) [
  | inl in' ↦ in'
  | inr none ↦
      let few = length-part (x ∷ numbers) (range_with_len 0 (length numbers))
      (AreDistinct-cons x numbers none distinct) among in
      let many = length-range_with_len 0 (length numbers) in
      absurd (omega (arith, few, many))
]
  where
    below : (n y : ℕ) → y < n → Contains (range_with_len 0 n) y
    below n y less = (
      y,
      (let many = length-range_with_len 0 n in omega (arith, many)),
      get_or-range_with_len 0 n y y less ∙ omega arith,
    )

    among : (y : ℕ) → Contains (x ∷ numbers) y → Contains (range_with_len 0 (length numbers)) y
    among y (zero, inside, is) = below (length numbers) y (subst (λ (y : ℕ). y < length numbers) is less)
    among y (suc k, inside, is) = below (length numbers) y
        (subst (λ (y : ℕ). y < length numbers) is (within k y (omega arith)))

module _ (rows : List NodeRow) (net : IsNetwork rows) (ring : IsRing rows) where
  abbrev pub n : ℕ
  n = length rows

  pub some : 0 < n
  some = let some = net.limits.some in omega arith

  abbrev pub first_two : HasTwo rows 0
  first_two = has_two rows net ring.two 0 some

  abbrev pub came : ℕ
  came = get_or (beside rows 0) 1 0

  -- the place after k steps
  abbrev pub at : ℕ → ℕ
  at = place_after rows 0 came

  pub first_step : at 1 ≡ first_two.one
  first_step =
      let one : get_or (beside rows 0) 0 0 ≡ first_two.one =
      ap (λ (places : List ℕ). get_or places 0 0) first_two.are in
      let other : get_or (beside rows 0) 1 0 ≡ first_two.other =
      ap (λ (places : List ℕ). get_or places 1 0) first_two.are in
      let differ : (get_or (beside rows 0) 0 0 == came) ≡ false =
      ne_eqb _ _ (λ e. first_two.apart (sym one ∙ e ∙ other)) in
      ap (λ (b : Bool). if b then get_or (beside rows 0) 1 0 else get_or (beside rows 0) 0 0) differ
      ∙ one

  record Onward (here before : ℕ) : Type 0 where
    pub beside : Contains (beside rows here) (onward rows here before)
    pub away : onward rows here before ≢ before

  onward_is : (here before : ℕ) → here < n → Onward here before
  onward_is here before within =
      let two : HasTwo rows here = has_two rows net ring.two here within in
      let one : get_or (beside rows here) 0 0 ≡ two.one =
      ap (λ (places : List ℕ). get_or places 0 0) two.are in
      let other : get_or (beside rows here) 1 0 ≡ two.other =
      ap (λ (places : List ℕ). get_or places 1 0) two.are in
      by two one other (cases_eq (get_or (beside rows here) 0 0) before)
    where
      by : (two : HasTwo rows here) → get_or (beside rows here) 0 0 ≡ two.one
          → get_or (beside rows here) 1 0 ≡ two.other
          → ((get_or (beside rows here) 0 0 ≡ before) ⊎ (get_or (beside rows here) 0 0 ≢ before))
          → Onward here before
      by two one other (inl e) =
          let is : onward rows here before ≡ two.other =
          ap (λ (b : Bool). if b then get_or (beside rows here) 1 0
          else get_or (beside rows here) 0 0) (eq-eqb _ _ e) ∙ other in
          record {
            beside = subst (Contains (beside rows here)) (sym is)
                (Contains-from_place (beside rows here) 1 two.other
                (ap (λ (places : List ℕ). slice_get places 1) two.are));
            away = λ same. two.apart (sym one ∙ e ∙ sym same ∙ is);
          }
      by two one other (inr apart) =
          let is : onward rows here before ≡ get_or (beside rows here) 0 0 =
          ap (λ (b : Bool). if b then get_or (beside rows here) 1 0
          else get_or (beside rows here) 0 0) (ne_eqb _ _ apart) in
          record {
            beside = subst (Contains (beside rows here)) (sym (is ∙ one))
                (Contains-from_place (beside rows here) 0 two.one
                (ap (λ (places : List ℕ). slice_get places 0) two.are));
            away = λ same. apart (sym is ∙ same);
          }

  -- each step leads to a neighbour
  pub record Steps (k : ℕ) : Type 0 where
    pub within : at k < n
    pub next : Contains (beside rows (at k)) (at (suc k))

  pub steps : (k : ℕ) → Steps k
  steps zero = record {
    within = some;
    next = subst (Contains (beside rows 0)) (sym first_step)
        (Contains-from_place (beside rows 0) 0 first_two.one
        (ap (λ (places : List ℕ). slice_get places 0) first_two.are));
  }
  steps (suc k) =
      let last : Steps k = steps k in
      let inside : at (suc k) < n = neighbour_within rows net (at k) (at (suc k)) last.within last.next in
      record {
        within = inside;
        next = subst (Contains (beside rows (at (suc k)))) (sym (step_after rows 0 came k))
            (onward_is (at (suc k)) (at k) inside).beside;
      }

  back : (k : ℕ) → Contains (beside rows (at (suc k))) (at k)
  back k = beside_turned rows net (at k) (at (suc k)) (steps k).within (steps k).next

  away : (k : ℕ) → at (suc (suc k)) ≢ at k
  away k same = (onward_is (at (suc k)) (at k) (steps (suc k)).within).away
      (sym (step_after rows 0 came k) ∙ same)

  -- the first so many places are different
  abbrev pub Differ : ℕ → Type 0
  Differ m = (i j : ℕ) → i < j → j < m → at i ≢ at j

  -- who comes to a place again comes to the first
  pub comes_home : (k m : ℕ) → Differ (suc k) → m ≤ k → at (suc k) ≡ at m → (m ≡ 0) × (2 ≤ k)
  comes_home zero zero differ few same =
      absurd (not_itself rows net (at 0) some (subst (Contains (beside rows (at 0))) same (steps 0).next))
  comes_home zero (suc m) differ few same = absurd (omega arith)
  comes_home (suc zero) zero differ few same = absurd (away 0 same)
  comes_home (suc (suc k)) zero differ few same = (refl, omega arith)
  comes_home (suc k) (suc m) differ few same = elim (cases_eq k m) [
    | inl e ↦ absurd (not_itself rows net (at (suc k)) (steps (suc k)).within
        (subst (Contains (beside rows (at (suc k))))
        (same ∙ ap (λ (m : ℕ). at (suc m)) (sym e)) (steps (suc k)).next))
    | inr apart ↦ absurd (by apart (only_two rows net ring.two (at (suc m)) (at (suc (suc m))) (at m)
        (at (suc k)) (steps (suc m)).within (steps (suc m)).next (back m)
        (beside_turned rows net (at (suc k)) (at (suc m)) (steps (suc k)).within
        (subst (Contains (beside rows (at (suc k)))) same (steps (suc k)).next)) (away m)))
  ]
    where
      by : k ≢ m → (at (suc k) ≡ at (suc (suc m))) ⊎ (at (suc k) ≡ at m) → ⊥
      by apart (inl e) = elim (cases_eq k (suc m)) [
        | inl next ↦ away (suc m) (ap (λ (k : ℕ). at (suc (suc k))) (sym next) ∙ same)
        | inr far ↦ elim (cases_order k (suc m)) [
          | inl one ↦ far one
          | inr order ↦ elim order [
            | inl below ↦ apart (omega arith)
            | inr above ↦ differ (suc (suc m)) (suc k) (omega arith) (omega arith) (sym e)
          ]
        ]
      ]
      by apart (inr e) = differ m (suc k) (omega arith) (omega arith) (sym e)
