-- What stands at a place of a list after an item came or went: the place is the same for each list
-- with one item a node.
use Rattle.std.proofs.Common.{◌≡◌, ◌≢◌, ◌∙◌, ℕ, zero, suc, ◌+◌, ◌≤◌, Bool, true, false, cond, ◌==◌, nat_lt, List, [], ◌∷◌, insert, remove, length, slice_get, Option, Some, None, refl, sym, ap, arith}
use Rattle.std.specs.List.{position_or_len}
use Rattle.std.specs.Option.{option_and_then, unwrap_or}
use Rattle.std.proofs.lemmas.Bool.{lt-ltb, le-ltb, ltb-false, ltb-true}
use Rattle.std.proofs.lemmas.Bool.Decides.{nat_tests}
use Rattle.pls_configuration.specs.declared.row.NodeRow.{NodeRow}
use Rattle.pls_graph_edits.specs.inner.Gaps.{place_with, place_without}
use Rattle.pls_labels.specs.Seen.{label_of}

module _ {X : Type 0} where
  pub insert_here : (xs : List X) (i : ℕ) (x : X) → i ≤ length xs
      → slice_get (insert xs i x) i ≡ Some x
  insert_here xs zero x within = refl
  insert_here [] (suc i) x within = absurd (omega arith)
  insert_here (y ∷ xs) (suc i) x within = insert_here xs i x (omega arith)

  pub insert_other : (xs : List X) (i j : ℕ) (x : X) → i ≤ length xs → j ≢ i
      → slice_get (insert xs i x) j ≡ slice_get xs (place_without i j)
  insert_other xs zero zero x within other = absurd (other refl)
  insert_other xs zero (suc j) x within other =
      let at : place_without zero (suc j) ≡ j = grind (arith, nat_tests) in
      ap (slice_get xs) (sym at)
  insert_other [] (suc i) j x within other = absurd (omega arith)
  insert_other (y ∷ xs) (suc i) zero x within other =
      let at : place_without (suc i) zero ≡ zero = grind (arith, nat_tests) in
      ap (slice_get (y ∷ xs)) (sym at)
  insert_other (y ∷ xs) (suc i) (suc j) x within other =
      let at : place_without (suc i) (suc j) ≡ suc (place_without i j) = deeper i j other in
      insert_other xs i j x (omega arith) (λ e. other (ap suc e)) ∙ ap (slice_get (y ∷ xs)) (sym at)
    where
      deeper : (i j : ℕ) → suc j ≢ suc i → place_without (suc i) (suc j) ≡ suc (place_without i j)
      deeper i j other = grind (arith, nat_tests)

  pub remove_at : (xs : List X) (i j : ℕ)
      → slice_get (remove xs i) j ≡ slice_get xs (place_with i j)
  remove_at [] zero j = refl
  remove_at [] (suc i) j = refl
  remove_at (y ∷ xs) zero j =
      let at : place_with zero j ≡ suc j = grind (arith, nat_tests) in
      ap (slice_get (y ∷ xs)) (sym at)
  remove_at (y ∷ xs) (suc i) zero =
      let at : place_with (suc i) zero ≡ zero = grind (arith, nat_tests) in
      ap (slice_get (y ∷ xs)) (sym at)
  remove_at (y ∷ xs) (suc i) (suc j) =
      let at : place_with (suc i) (suc j) ≡ suc (place_with i j) = grind (arith, nat_tests) in
      remove_at xs i j ∙ ap (slice_get (y ∷ xs)) (sym at)

  pub remove_inserted : (xs : List X) (i : ℕ) (x : X) → i ≤ length xs
      → remove (insert xs i x) i ≡ xs
  remove_inserted xs zero x within = refl
  remove_inserted [] (suc i) x within = absurd (omega arith)
  remove_inserted (y ∷ xs) (suc i) x within =
      ap (λ (rest : List X). y ∷ rest) (remove_inserted xs i x (omega arith))

-- the place of what stays is not that of what goes
pub other_place : (i j : ℕ) → place_with i j ≢ i
other_place i j e = by (nat_lt j i) refl e
  where
    by : (b : Bool) → nat_lt j i ≡ b → cond b j (j + 1) ≡ i → ⊥
    by true is same = let below = ltb-true j i is in omega (arith, below, same)
    by false is same = let above = ltb-false j i is in omega (arith, above, same)

-- the first row has the first label
pub label_of-cons : (row : NodeRow) (rows : List NodeRow) (label : List Bool)
    (labels : List (List Bool)) (id : ℕ)
    → label_of (row ∷ rows) (label ∷ labels) id ≡ cond (id == row.id) label (label_of rows labels id)
label_of-cons row rows label labels id = by (id == row.id) refl
  where
    last : ℕ
    last = position_or_len (λ row. id == row.id) rows

    later : List Bool
    later = unwrap_or (option_and_then (slice_get labels)
        (cond (nat_lt last (length rows)) (Some last) None)) []

    at_place : ℕ → List Bool
    at_place place = unwrap_or (option_and_then (slice_get (label ∷ labels))
        (cond (nat_lt place (length (row ∷ rows))) (Some place) None)) []

    -- a place behind the first
    behind : (b : Bool) → nat_lt last (length rows) ≡ b → at_place (suc last) ≡ later
    behind true e =
        let below = ltb-true last (length rows) e in
        let more : nat_lt (suc last) (length (row ∷ rows)) ≡ true =
        lt-ltb (suc last) (length (row ∷ rows)) (omega (arith, below)) in
        rw (more, e) refl
    behind false e =
        let past = ltb-false last (length rows) e in
        let more : nat_lt (suc last) (length (row ∷ rows)) ≡ false =
        le-ltb (suc last) (length (row ∷ rows)) (omega (arith, past)) in
        rw (more, e) refl

    next : (place : ℕ) → place ≡ suc last → at_place place ≡ later
    next place is = ap at_place is ∙ behind (nat_lt last (length rows)) refl

    by : (b : Bool) → (id == row.id) ≡ b
        → label_of (row ∷ rows) (label ∷ labels) id ≡ cond b label (label_of rows labels id)
    by true e =
        let first : nat_lt 0 (length (row ∷ rows)) ≡ true =
        lt-ltb 0 (length (row ∷ rows)) (omega arith) in
        rw (e, first) refl
    by false e = rw e (next (1 + last) (omega arith))

-- the labels of the others, where a row comes with its label
pub label_of-insert : (rows : List NodeRow) (labels : List (List Bool)) (i : ℕ) (row : NodeRow)
    (label : List Bool) (id : ℕ) → length labels ≡ length rows → i ≤ length rows
    → (id == row.id) ≡ false
    → label_of (insert rows i row) (insert labels i label) id ≡ label_of rows labels id
label_of-insert rows labels zero row label id many within other =
    label_of-cons row rows label labels id
    ∙ ap (λ (b : Bool). cond b label (label_of rows labels id)) other
label_of-insert [] labels (suc i) row label id many within other = absurd (omega arith)
label_of-insert (first ∷ rows) [] (suc i) row label id many within other = absurd (cc)
label_of-insert (first ∷ rows) (front ∷ labels) (suc i) row label id many within other =
    label_of-cons first (insert rows i row) front (insert labels i label) id
    ∙ ap (λ (rest : List Bool). cond (id == first.id) front rest)
    (label_of-insert rows labels i row label id (omega (arith, many)) (omega arith) other)
    ∙ sym (label_of-cons first rows front labels id)

-- the labels of the others, where a row goes with its label
pub label_of-remove : (rows : List NodeRow) (labels : List (List Bool)) (i : ℕ) (row : NodeRow)
    (id : ℕ) → length labels ≡ length rows → slice_get rows i ≡ Some row → (id == row.id) ≡ false
    → label_of (remove rows i) (remove labels i) id ≡ label_of rows labels id
label_of-remove [] labels i row id many at other = absurd (cc)
label_of-remove (first ∷ rows) [] i row id many at other = absurd (cc)
label_of-remove (first ∷ rows) (front ∷ labels) zero row id many at other =
    sym (label_of-cons first rows front labels id
    ∙ ap (λ (b : Bool). cond b front (label_of rows labels id))
    (ap (λ (o : Option NodeRow). test o) at ∙ other))
  where
    test : Option NodeRow → Bool
    test None = false
    test (Some row) = id == row.id
label_of-remove (first ∷ rows) (front ∷ labels) (suc i) row id many at other =
    label_of-cons first (remove rows i) front (remove labels i) id
    ∙ ap (λ (rest : List Bool). cond (id == first.id) front rest)
    (label_of-remove rows labels i row id (omega (arith, many)) at other)
    ∙ sym (label_of-cons first rows front labels id)
