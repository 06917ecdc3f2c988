-- A network that is one component.
use Rattle.std.proofs.Common.{◌≡◌, ◌∙◌, ℕ, ◌+◌, ◌*◌, ◌<◌, ◌≤◌, max, ◌⊎◌, Bool, inl, inr, List, [], ◌∷◌, ◌++◌, length, slice_get, All, Contains, Some, refl, sym, ap, subst, arith, length-append}
use Rattle.std.proofs.lemmas.List.{append_assoc}
use Rattle.std.proofs.lemmas.List.Elements.{All-head, All-tail, Contains-push_cases}
use Rattle.pls_configuration.specs.declared.row.NodeRow.{NodeRow}
use Rattle.pls_configuration.specs.declared.verdict.Verdict.{Verdict}
use Rattle.pls_configuration.specs.Configuration.{IsNetwork}
use Rattle.pls_configuration.specs.Walk.{IsConnected}
use Rattle.pls_configuration.specs.Rising.{IsRising}
use Rattle.pls_graph.specs.declared.size.Size.{Size}
use Rattle.pls_graph.specs.Connected.{smallest_id}
use Rattle.pls_graph.proofs.Members.{Contains-cons_cases, Contains-first}
use Rattle.pls_graph.proofs.Placed.{smallest_first}
use Rattle.pls_labels.specs.Seen.{Seen}
use Rattle.pls_scheme.specs.Judging.{AllAccept}
use Rattle.pls_components.specs.Components.{AreComponents, IsComponent, items_at, least_id}
use Rattle.pls_components.specs.Parts.{AreLacking, AreShown, AreWithinBound, bound_of_parts, room_of_parts}
use Rattle.pls_graph.specs.Size.{size_of}
use Rattle.pls_components.proofs.Apart.{component_listed}
use Rattle.pls_components.proofs.Items.{length-items, rising-head, rising-tail}
use Rattle.pls_components.proofs.Part.{part_connected, places_within}

-- the first item behind a front stands at the length of the front
at_seam : {X : Type 0} (front : List X) (x : X) (xs : List X)
    → slice_get (front ++ x ∷ xs) (length front) ≡ Some x
at_seam [] x xs = refl
at_seam (first ∷ front) x xs = at_seam front x xs

-- rising places that are all those behind a front have the items behind it
all_from : {X : Type 0} (front xs : List X) (places : List ℕ) → IsRising places
    → All (λ (place : ℕ). length front ≤ place) places
    → All (λ (place : ℕ). place < length front + length xs) places
    → ((place : ℕ) → length front ≤ place → place < length front + length xs → Contains places place)
    → items_at (front ++ xs) places ≡ xs
all_from front [] [] rising from within all = refl
all_from front [] (place ∷ places) rising from within all =
    let low = All-head (λ (place : ℕ). length front ≤ place) place places from in
    let high = All-head (λ (place : ℕ). place < length front + 0) place places within in
    absurd (omega arith)
all_from front (x ∷ xs) [] rising from within all =
    let in' : Contains [] (length front) = all (length front) (omega arith) (omega arith) in
    absurd (let i = in'.1 in omega arith)
all_from {X} front (x ∷ xs) (place ∷ places) rising from within all =
    let here : place ≡ length front = first in
    let seam : slice_get (front ++ x ∷ xs) place ≡ Some x =
    ap (slice_get (front ++ x ∷ xs)) here ∙ at_seam front x xs in
    let rest : items_at ((front ++ x ∷ []) ++ xs) places ≡ xs =
    all_from (front ++ x ∷ []) xs places (rising-tail place places rising)
    (λ k d inside. let up = rising-head place places rising k d inside in omega (arith, long))
    (λ k d inside. let below = All-tail (λ (place : ℕ). place < length front + length (x ∷ xs)) place
    places within k d inside in omega (arith, long))
    (λ other low high. later other (omega (arith, long))
    (Contains-cons_cases place places other (all other (omega (arith, long)) (omega (arith, long))))) in
    let same : items_at (front ++ x ∷ xs) places ≡ xs =
    subst (λ (all : List X). items_at all places ≡ xs) (append_assoc front (x ∷ []) xs) rest in
    rw (seam, same) refl
  where
    long : length (front ++ x ∷ []) ≡ length front + 1
    long = length-append front (x ∷ [])

    first : place ≡ length front
    first =
        let in' : Contains (place ∷ places) (length front) =
        all (length front) (omega arith) (omega arith) in
        let low = All-head (λ (place : ℕ). length front ≤ place) place places from in
        elim (Contains-cons_cases place places (length front) in') [
          | inl same ↦ same
          | inr behind ↦
              let up = rising-head place places rising behind.0 (length front) behind.1 in
              let at = behind.2 in absurd (omega arith)
        ]

    later : (other : ℕ) → length front < other → (place ≡ other) ⊎ Contains places other
        → Contains places other
    later other past (inl same) = let here = first in absurd (omega arith)
    later other past (inr in') = in'

pub all_items : {X : Type 0} (xs : List X) (places : List ℕ) → IsRising places
    → All (λ (place : ℕ). place < length xs) places
    → ((place : ℕ) → place < length xs → Contains places place) → items_at xs places ≡ xs
all_items xs places rising within all =
    all_from [] xs places rising (λ k d inside. omega arith)
    (λ k d inside. let below = within k d inside in omega arith)
    (λ place low high. all place (omega arith))

module _ (rows : List NodeRow) (net : IsNetwork rows) (parts : List (List ℕ))
    (are : AreComponents rows parts) (places : List ℕ) (alone : parts ≡ places ∷ []) where
  abbrev one : IsComponent rows places
  one = are.each places (subst (λ (parts : List (List ℕ)). Contains parts places) (sym alone)
      (Contains-first places []))

  -- where there is one component, it is the one that is listed, and has all places
  only : (other : List ℕ) → Contains parts other → places ≡ other
  only other in' =
      elim (Contains-push_cases [] places other
      (subst (λ (parts : List (List ℕ)). Contains parts other) alone in')) [
        | inl none ↦ absurd (let i = none.1 in omega arith)
        | inr same ↦ same
      ]

  all_in : (place : ℕ) → place < length rows → Contains places place
  all_in place within =
      let (other, in', has) : (other : List ℕ) × Contains parts other × Contains other place =
      are.all place within in
      subst (λ (places : List ℕ). Contains places place) (sym (only other in')) has

  -- so the component by itself is the network
  pub whole_rows : items_at rows places ≡ rows
  whole_rows = all_items rows places one.rising (places_within rows net places one) all_in

  pub whole_labels : {X : Type 0} (labels : List X) → length labels ≡ length rows
      → items_at labels places ≡ labels
  whole_labels labels each = all_items labels places one.rising
      (λ k d inside. let within = places_within rows net places one k d inside in omega arith)
      (λ place within. all_in place (omega arith))

  pub whole_connected : IsConnected rows
  whole_connected = subst IsConnected whole_rows (part_connected rows net places one)

  listed_one : (other : List ℕ) → IsComponent rows other → places ≡ other
  listed_one other is = only other (component_listed rows net parts are other is)

  -- what a scheme says of the network it says of each component
  pub whole_shown : (holds : List NodeRow → Type 0)
      (marked : List NodeRow → List (List Bool) → Type 0) (judge : Seen → Verdict)
      (longest : Size → ℕ) (labels : List (List Bool)) → holds rows → marked rows labels
      → length labels ≡ length rows → AllAccept judge rows labels → AreWithinBound longest rows labels
      → AreShown holds marked judge longest rows labels
  whole_shown holds marked judge longest labels has right each accepted short = record {
    has = λ other is. subst (λ (places : List ℕ). holds (items_at rows places)) (listed_one other is)
        (subst holds (sym whole_rows) has);
    each = each;
    right = λ other is. fits marked other is right;
    accepted = accepted;
    short = λ other is. fits (AreWithinBound longest) other is short;
  }
    where
      fits : (P : List NodeRow → List (List Bool) → Type 0) → (other : List ℕ)
          → IsComponent rows other → P rows labels
          → P (items_at rows other) (items_at labels other)
      fits P other is holds =
          subst (λ (places : List ℕ). P (items_at rows places) (items_at labels places))
          (listed_one other is)
          (subst (λ (rows : List NodeRow). P rows (items_at labels places)) (sym whole_rows)
          (subst (P rows) (sym (whole_labels labels each)) holds))

  pub whole_lacking : (holds : List NodeRow → Type 0) (row : NodeRow)
      → slice_get rows 0 ≡ Some row → (holds rows → ⊥) → AreLacking holds rows (row.id ∷ [])
  whole_lacking holds row first lacks = record {
    some = λ none. absurd (cc);
    rising = λ i j d less inside. absurd (omega arith);
    each = λ id in'. (
      places,
      record { component = one; lacks = λ has. lacks (subst holds whole_rows has) },
      least ∙ is_id id in',
    );
    all = λ other lacks.
        subst (λ (places : List ℕ). Contains (row.id ∷ []) (least_id rows places))
        (listed_one other lacks.component)
        (subst (Contains (row.id ∷ [])) (sym least) (Contains-first row.id []));
  }
    where
      least : least_id rows places ≡ row.id
      least = ap smallest_id whole_rows ∙ smallest_first rows net row first

      is_id : (id : ℕ) → Contains (row.id ∷ []) id → row.id ≡ id
      is_id id in' = elim (Contains-push_cases [] row.id id in') [
        | inl none ↦ absurd (let i = none.1 in omega arith)
        | inr same ↦ same
      ]

  -- and its bound and room are those of the network
  pub whole_bound : (longest : Size → ℕ)
      → bound_of_parts longest rows parts ≡ longest (size_of rows)
  whole_bound longest =
      ap (bound_of_parts longest rows) alone
      ∙ (let one : max (longest (size_of (items_at rows places))) 0
      ≡ longest (size_of (items_at rows places)) = omega arith in one)
      ∙ ap (λ (rows : List NodeRow). longest (size_of rows)) whole_rows

  pub whole_room : (longest : Size → ℕ)
      → room_of_parts longest rows parts ≡ length rows * longest (size_of rows)
  whole_room longest =
      let many : length places ≡ length rows =
      sym (length-items rows places (places_within rows net places one))
      ∙ ap (length {A = NodeRow}) whole_rows in
      let size : longest (size_of (items_at rows places)) ≡ longest (size_of rows) =
      ap (λ (rows : List NodeRow). longest (size_of rows)) whole_rows in
      ap (room_of_parts longest rows) alone
      ∙ (let first : 0 + length places * longest (size_of (items_at rows places))
      ≡ length places * longest (size_of (items_at rows places)) = omega arith in first)
      ∙ (λ i. many i * size i)
