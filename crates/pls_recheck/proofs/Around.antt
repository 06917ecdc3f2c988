-- A node and its neighbours, touched by their places.
use Rattle.std.proofs.Common.{◌≡◌, ◌≢◌, ◌∙◌, inl, inr, ℕ, suc, ◌+◌, ◌<◌, Bool, true, false, ◌==◌, ◌||◌, List, [], ◌∷◌, map, take, length, set, slice_get, position, Some, option_map, refl, sym, ap, arith, get_or}
use Rattle.std.specs.List.{list_any}
use Rattle.std.proofs.lemmas.Bool.{cases_order, eq-eqb, eqb-true, ne_eqb}
use Rattle.std.proofs.lemmas.List.{length-set, get_or-set_same, get_or-set_other, take_more}
use Rattle.std.proofs.lemmas.List.Folds.{list_any-append}
use Rattle.std.proofs.lemmas.Option.{same_Some, slice_get-get_or, slice_get_within, get_or_from_slice_get}
use Rattle.pls_configuration.specs.declared.row.Port.{Port}
use Rattle.pls_configuration.specs.declared.row.NodeRow.{NodeRow}
use Rattle.pls_configuration.specs.Configuration.{IsNetwork, row_of}
use Rattle.pls_graph_edits.specs.Edits.{are_linked}
use Rattle.pls_graph.specs.Places.{beside, place_in}
use Rattle.pls_graph.proofs.Beside.{beside_row, one_place}
use Rattle.pls_graph.proofs.Placed.{neighbour_found, place_of_row, row_place}
use Rattle.pls_recheck.specs.inner.Flags.{AreAround, MarksMore, SetsAt, beside_itself, names}
use Rattle.pls_recheck.proofs.Relabelled.{IsRowOf, marks_same, named_linked, place_is, set_elsewhere}
use Rattle.pls_recheck.proofs.Touching.{or_false, or_true, or_twice, touch_one, touch_twice}

-- the flag at one place more is set
pub set_more : (places : List ℕ) (p d : ℕ) (old now : List Bool) → p < length places
    → get_or places p d < length now
    → SetsAt (take p places) old now → SetsAt (take (p + 1) places) old (set now (get_or places p d) true)
set_more places p d old now within inside before = record {
  as_many = length-set now (get_or places p d) true ∙ before.as_many;
  each = λ k flag has. at k flag has (before.each k flag has);
}
  where
    one : ℕ
    one = get_or places p d

    all : (k : ℕ) → list_any (λ place. k == place) (take (p + 1) places)
        ≡ (list_any (λ place. k == place) (take p places) || (k == one))
    all k = ap (λ (some : List ℕ). list_any (λ place. k == place) some) (take_more places p d within)
        ∙ list_any-append (λ (place : ℕ). k == place) (take p places) (one ∷ [])
        ∙ ap (λ (b : Bool). list_any (λ place. k == place) (take p places) || b)
        (sym (or_false (k == one)))

    at : (k : ℕ) (flag : Bool) → slice_get old k ≡ Some flag
        → slice_get now k ≡ Some (flag || list_any (λ place. k == place) (take p places))
        → slice_get (set now one true) k
        ≡ Some (flag || list_any (λ place. k == place) (take (p + 1) places))
    at k flag has was =
        let some : Bool = list_any (λ place. k == place) (take p places) in
        let there = slice_get_within now k (flag || some) was in
        elim (cases_order k one) [
          | inl e ↦ slice_get-get_or (set now one true) k true
              (omega (arith, there, length-set now one true))
              ∙ ap (λ (b : Bool). Some b) (ap (λ (k : ℕ). get_or (set now one true) k true) e
              ∙ get_or-set_same now one true true inside
              ∙ or_true (flag || some) ∙ or_twice flag some true
              ∙ ap (λ (b : Bool). flag || b) (ap (λ (b : Bool). some || b) (sym (eq-eqb k one e))
              ∙ sym (all k)))
          | inr apart ↦
              let other : k ≢ one = λ e. elim apart [
                | inl before ↦ absurd (omega (arith, before, e))
                | inr after ↦ absurd (omega (arith, after, e))
              ] in
              slice_get-get_or (set now one true) k true
              (omega (arith, there, length-set now one true))
              ∙ ap (λ (b : Bool). Some b) (get_or-set_other now one k true true other
              ∙ get_or_from_slice_get now k (flag || some) true was
              ∙ ap (λ (b : Bool). flag || b) (or_false some
              ∙ ap (λ (b : Bool). some || b) (sym (ne_eqb k one other)) ∙ sym (all k)))
        ]

module _ (rows : List NodeRow) (net : IsNetwork rows) (i : ℕ) (row : NodeRow)
    (at : slice_get rows i ≡ Some row) where
  -- a place is one of the neighbours' where a port names the node there
  place_named : (k : ℕ) (other : NodeRow) → slice_get rows k ≡ Some other → (ports : List Port)
      → ((p : ℕ) (port : Port) → slice_get ports p ≡ Some port
      → (third : NodeRow) × (row_of rows port.nbr ≡ Some third))
      → list_any (λ place. k == place) (map (λ port. place_in rows port.nbr) ports)
      ≡ names ports other.id
  place_named k other there [] known = refl
  place_named k other there (port ∷ ports) known =
      rw (place_named k other there ports (λ p one has. known (suc p) one has), first) refl
    where
      first : (k == place_in rows port.nbr) ≡ (other.id == port.nbr)
      first =
          let third : (third : NodeRow) × (row_of rows port.nbr ≡ Some third) = known 0 port refl in
          let place : (j : ℕ) × (slice_get rows j ≡ Some third.0) × (port.nbr ≡ third.0.id) =
          row_place rows net port.nbr third.0 third.1 in
          let found : position (λ (row : NodeRow). port.nbr == row.id) rows ≡ Some place.0 =
          ap (λ (id : ℕ). position (λ (row : NodeRow). id == row.id) rows) place.2
          ∙ place_of_row rows net place.0 third.0 place.1 in
          let is : place_in rows port.nbr ≡ place.0 = place_is rows net port.nbr place.0 found in
          by (other.id == port.nbr) refl third.0 place.0 place.1 place.2 is
        where
          by : (b : Bool) → (other.id == port.nbr) ≡ b → (third : NodeRow) (j : ℕ)
              → slice_get rows j ≡ Some third → port.nbr ≡ third.id → place_in rows port.nbr ≡ j
              → (k == place_in rows port.nbr) ≡ b
          by true e third j stands same is =
              let ids = eqb-true other.id port.nbr e ∙ same in
              eq-eqb k (place_in rows port.nbr)
              (one_place rows net k j other third there stands ids ∙ sym is)
          by false e third j stands same is =
              ne_eqb k (place_in rows port.nbr) (λ here.
              let row_is : other ≡ third = same_Some other third
              (sym there ∙ ap (slice_get rows) (here ∙ is) ∙ stands) in
              let yes : (other.id == port.nbr) ≡ true = eq-eqb other.id port.nbr
              (ap (λ (row : NodeRow). row.id) row_is ∙ sym same) in
              let no : true ≡ false = sym yes ∙ e in absurd (cc no))

  -- the flags at the neighbours' places are those of the neighbours
  pub marks_beside : (old new : List Bool) → SetsAt (beside rows i) old new
      → MarksMore (λ node. names row.ports node) rows old new
  marks_beside old new sets = record {
    as_many = sets.as_many;
    each = λ k other flag there has.
        sets.each k flag has
        ∙ ap (λ (b : Bool). Some (flag || b))
        (ap (λ (places : List ℕ). list_any (λ place. k == place) places) (beside_row rows net i row at)
        ∙ place_named k other there row.ports
        (λ p port named. neighbour_found rows net i row at p port named));
  }

  -- touched are the node and its neighbours
  pub marks_around : (old new : List Bool) → length old ≡ length rows
      → SetsAt (beside rows i) (set old i true) new
      → MarksMore (beside_itself row) rows old new
  marks_around old new many sets =
      touch_twice rows old (set old i true) new (λ node. row.id == node)
      (λ node. names row.ports node)
      (touch_one rows net old row.id i (place_of_row rows net i row at) many)
      (marks_beside (set old i true) new sets)

  module _ (old around : List Bool) (many : length old ≡ length rows)
      (noted : AreAround rows old around) where
    -- the node may be noted then
    pub note_more : (new : List Bool) → MarksMore (beside_itself row) rows old new
        → AreAround rows new (set around i true)
    note_more new more = record {
      as_many = length-set around i true ∙ noted.as_many;
      each = λ k j one other here is there near. elim (cases_order k i) [
        | inl e ↦
            let same : one ≡ row = same_Some one row (sym here ∙ ap (slice_get rows) e ∙ at) in
            let inside = slice_get_within rows j other there in
            let flag : Bool = get_or old j true in
            more.each j other flag there (slice_get-get_or old j true (omega (arith, inside, many)))
            ∙ ap (λ (b : Bool). Some b) (ap (λ (b : Bool). flag || b)
            (ap (λ (row : NodeRow). beside_itself row other.id) (sym same) ∙ near) ∙ sym (or_true flag))
        | inr apart ↦
            let differs : k ≢ i = λ e. elim apart [
              | inl before ↦ absurd (omega (arith, before, e))
              | inr after ↦ absurd (omega (arith, after, e))
            ] in
            let was : slice_get around k ≡ Some true = set_elsewhere around i k true differs ∙ is in
            more.each j other true there (noted.each k j one other here was there near)
      ];
    }

-- touched around a node's row are the node and those that are linked with it
pub marks_linked : (rows : List NodeRow) → IsNetwork rows → (id i : ℕ)
    → position (λ row. id == row.id) rows ≡ Some i → (row : NodeRow) → IsRowOf rows id i row
    → (old new : List Bool) → MarksMore (beside_itself row) rows old new
    → MarksMore (λ node. (id == node) || are_linked rows id node) rows old new
marks_linked rows net id i place row is old new more =
    marks_same (beside_itself row) (λ node. (id == node) || are_linked rows id node) rows old new
    (λ node. ap (λ (id : ℕ). (id == node) || names row.ports node) is.same
    ∙ ap (λ (b : Bool). (id == node) || b)
    (named_linked rows net id i place row.ports (ap (option_map (λ (row : NodeRow). row.ports)) is.at)
    node)) more
