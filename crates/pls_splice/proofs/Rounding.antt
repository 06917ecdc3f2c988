-- What loops over the rows of a network keep.
use Rattle.std.proofs.Common.{◌≡◌, ◌≢◌, ◌∙◌, ℕ, suc, ◌+◌, ◌-◌, ◌<◌, ◌≤◌, true, false, cond, Bool, not, List, [], ◌∷◌, ◌++◌, map, drop, find, length, slice_get, Some, option_map, append_assoc, append-nil, sym, ap, arith}
use Rattle.std.proofs.lemmas.Bool.{ne_eqb, eq-eqb}
use Rattle.std.proofs.lemmas.List.{drop_more}
use Rattle.std.proofs.lemmas.Option.{get_or_from_slice_get, slice_get_within}
use Rattle.pls_configuration.specs.declared.row.Port.{Port}
use Rattle.pls_configuration.specs.declared.row.NodeRow.{NodeRow}
use Rattle.pls_graph.proofs.Finds.{from_option_map, item_at}
use Rattle.pls_splice.specs.Ring.{has_not_two}
use Rattle.pls_splice.specs.inner.Round.{onward, places_from}

-- the rows from a place on are the row at that place and those behind it
pub from_here : {X : Type 0} (xs : List X) (i : ℕ) (x : X) → slice_get xs i ≡ Some x
    → drop i xs ≡ x ∷ drop (i + 1) xs
from_here {X} xs i x at =
    drop_more xs i x (slice_get_within xs i x at)
    ∙ ap (λ (y : X). y ∷ drop (i + 1) xs) (get_or_from_slice_get xs i x x at)

module _ (rows : List NodeRow) (i : ℕ) (ports : List Port)
    (here : option_map (λ (row : NodeRow). row.ports) (slice_get rows i) ≡ Some ports) where
  abbrev row : NodeRow
  row = (from_option_map (λ (row : NodeRow). row.ports) (slice_get rows i) ports here).0

  at : slice_get rows i ≡ Some row
  at = (from_option_map (λ (row : NodeRow). row.ports) (slice_get rows i) ports here).1

  same : row.ports ≡ ports
  same = (from_option_map (λ (row : NodeRow). row.ports) (slice_get rows i) ports here).2

  pub first_here : (id : ℕ) → option_map (λ (row : NodeRow). row.id) (slice_get rows i) ≡ Some id
      → length ports ≢ 2 → find has_not_two (drop i rows) ≡ find has_not_two rows
      → Some id ≡ option_map (λ (row : NodeRow). row.id) (find has_not_two rows)
  first_here id named other found =
      let test : has_not_two row ≡ true =
      ap not (ne_eqb _ _ (λ e. other (ap length (sym same) ∙ e))) in
      let first : find has_not_two (drop i rows) ≡ Some row =
      ap (find has_not_two) (from_here rows i row at)
      ∙ ap (λ (b : Bool). cond b (Some row) (find has_not_two (drop (i + 1) rows))) test in
      sym named ∙ ap (option_map (λ (row : NodeRow). row.id)) (at ∙ sym first ∙ found)

  pub first_later : length ports ≡ 2 → find has_not_two (drop i rows) ≡ find has_not_two rows
      → find has_not_two (drop (i + 1) rows) ≡ find has_not_two rows
  first_later two found =
      let test : has_not_two row ≡ false = ap not (eq-eqb _ _ (ap length same ∙ two)) in
      sym (ap (find has_not_two) (from_here rows i row at)
      ∙ ap (λ (b : Bool). cond b (Some row) (find has_not_two (drop (i + 1) rows))) test)
      ∙ found

-- one row more
pub row_more : (f : NodeRow → NodeRow) (rows : List NodeRow) (i : ℕ) (done new : List NodeRow)
    → i < length rows
    → ((row : NodeRow) → slice_get rows i ≡ Some row → new ≡ done ++ f row ∷ [])
    → done ++ map f (drop i rows) ≡ map f rows → new ++ map f (drop (i + 1) rows) ≡ map f rows
row_more f rows i done new within put all =
    let (row, at) : (row : NodeRow) × (slice_get rows i ≡ Some row) = item_at rows i within in
    ap (λ (new : List NodeRow). new ++ map f (drop (i + 1) rows)) (put row at)
    ∙ append_assoc done (f row ∷ []) (map f (drop (i + 1) rows))
    ∙ ap (λ (rest : List NodeRow). done ++ map f rest) (sym (from_here rows i row at))
    ∙ all

-- one place more of a way round
pub go_on : (rows : List NodeRow) (here before next count counter : ℕ) (done new all : List ℕ)
    → counter < count → next ≡ onward rows here before → new ≡ done ++ here ∷ []
    → done ++ places_from rows here before (count - counter) ≡ all
    → new ++ places_from rows next here (count - (counter + 1)) ≡ all
go_on rows here before next count counter done new all less is put so =
    let one : count - counter ≡ suc (count - (counter + 1)) = omega arith in
    ap (λ (new : List ℕ). new ++ places_from rows next here (count - (counter + 1))) put
    ∙ append_assoc done (here ∷ []) (places_from rows next here (count - (counter + 1)))
    ∙ ap (λ (next : ℕ). done ++ here ∷ places_from rows next here (count - (counter + 1))) is
    ∙ ap (λ (left : ℕ). done ++ places_from rows here before left) (sym one)
    ∙ so

pub went_round : (rows : List NodeRow) (here before count counter : ℕ) (done all : List ℕ)
    → count ≤ counter → done ++ places_from rows here before (count - counter) ≡ all → done ≡ all
went_round rows here before count counter done all end so =
    let none : count - counter ≡ 0 = omega arith in
    sym (append-nil done) ∙ ap (λ (left : ℕ). done ++ places_from rows here before left) (sym none)
    ∙ so
