-- No node sees that two edges were crossed.
use Rattle.std.proofs.Common.{◌≡◌, ◌∙◌, ℕ, ◌<◌, true, false, Bool, ◌==◌, ◌&&◌, if◌then◌else◌, List, [], map, length, slice_get, Option, Some, option_and_then, refl, sym, ap, arith}
use Rattle.std.specs.Prelude.{unwrap_or}
use Rattle.std.proofs.lemmas.Bool.{eqb-true}
use Rattle.std.proofs.lemmas.Simd.{map-map}
use Rattle.std.proofs.lemmas.Option.{get_or_from_slice_get}
use Rattle.pls_configuration.specs.declared.row.Port.{Port}
use Rattle.pls_configuration.specs.declared.row.NodeRow.{NodeRow}
use Rattle.pls_configuration.specs.Configuration.{IsNetwork}
use Rattle.pls_graph.proofs.Finds.{item_at, position-map}
use Rattle.pls_graph.proofs.Placed.{place_of_row}
use Rattle.pls_graph_edits.proofs.Changing.{map_same}
use Rattle.pls_labels.proofs.Views.{label_at as label_placed}
use Rattle.pls_labels.specs.Seen.{SeenPort, label_of, seen, seen_port, views}
use Rattle.pls_splice.specs.Crossing.{IsPair, cross_port, cross_row, crossed_rows, ends_of, id_at, label_at, named_after}
use Rattle.pls_splice.specs.declared.crossing.Ends.{Ends}
use Rattle.pls_splice.specs.Ring.{IsRingOrder, head_of, tail_of}
use Rattle.pls_splice.proofs.EdgeEnds.{behind_within, first_within, id_row, place_within}

same_by_test : (x y : ℕ) → (x == y) ≡ true → x ≡ y
same_by_test x y e = eqb-true x y e

-- where the labels at the ends agree, the new name has the label of the old one
module _ (ends : Ends) (label : ℕ → List Bool) (tails : label ends.tail ≡ label ends.other_tail)
    (heads : label ends.head ≡ label ends.other_head) where
  pub same_label : (own x : ℕ) → label (named_after ends own x) ≡ label x
  same_label own x =
      first (own == ends.tail) (x == ends.head) refl
    where
      fourth : (b d : Bool) → (x == ends.other_tail) ≡ d
          → label (if (b && d) then ends.tail else x) ≡ label x
      fourth true true e = tails ∙ ap label (sym (same_by_test x ends.other_tail e))
      fourth true false e = refl
      fourth false d e = refl

      third : (b d : Bool) → (x == ends.tail) ≡ d
          → label (if (b && d) then ends.other_tail
          else (if (own == ends.other_head && x == ends.other_tail) then ends.tail else x)) ≡ label x
      third true true e = sym tails ∙ ap label (sym (same_by_test x ends.tail e))
      third true false e = fourth (own == ends.other_head) (x == ends.other_tail) refl
      third false d e = fourth (own == ends.other_head) (x == ends.other_tail) refl

      second : (b d : Bool) → (x == ends.other_head) ≡ d
          → label (if (b && d) then ends.head
          else (if (own == ends.head && x == ends.tail) then ends.other_tail
          else (if (own == ends.other_head && x == ends.other_tail) then ends.tail else x))) ≡ label x
      second true true e = heads ∙ ap label (sym (same_by_test x ends.other_head e))
      second true false e = third (own == ends.head) (x == ends.tail) refl
      second false d e = third (own == ends.head) (x == ends.tail) refl

      first : (b d : Bool) → (x == ends.head) ≡ d
          → label (if (b && d) then ends.other_head
          else (if (own == ends.other_tail && x == ends.other_head) then ends.head
          else (if (own == ends.head && x == ends.tail) then ends.other_tail
          else (if (own == ends.other_head && x == ends.other_tail) then ends.tail else x)))) ≡ label x
      first true true e = sym heads ∙ ap label (sym (same_by_test x ends.head e))
      first true false e = second (own == ends.other_tail) (x == ends.other_head) refl
      first false d e = second (own == ends.other_tail) (x == ends.other_head) refl

module _ (rows : List NodeRow) (net : IsNetwork rows) (labels : List (List Bool))
    (each : length labels ≡ length rows) (order : List ℕ) (of : IsRingOrder rows order) (i j : ℕ)
    (pair : IsPair rows labels order i j) where
  abbrev ends : Ends
  ends = ends_of rows order i j

  abbrev label : ℕ → List Bool
  label = label_of rows labels

  -- the label of the node at a place
  placed : (p : ℕ) → p < length rows → label (id_at rows p) ≡ label_at labels p
  placed p within =
      let (row, at, is) : (row : NodeRow) × (slice_get rows p ≡ Some row) × (row.id ≡ id_at rows p) =
      id_row rows net p within in
      let (own, stands) : (own : List Bool) × (slice_get labels p ≡ Some own) =
      item_at labels p (omega arith) in
      ap label (sym is)
      ∙ label_placed rows labels row.id p own (place_of_row rows net p row at) stands
      ∙ sym (get_or_from_slice_get labels p own [] stands)

  tails : label ends.tail ≡ label ends.other_tail
  tails = placed (tail_of order i)
      (place_within rows net labels order of i j pair i (first_within rows net labels order of i j pair))
      ∙ pair.alike.tails
      ∙ sym (placed (tail_of order j) (place_within rows net labels order of i j pair j pair.within))

  heads : label ends.head ≡ label ends.other_head
  heads = placed (head_of order i)
      (place_within rows net labels order of i j pair _
      (behind_within rows net labels order of i j pair i
      (first_within rows net labels order of i j pair)))
      ∙ pair.alike.heads
      ∙ sym (placed (head_of order j) (place_within rows net labels order of i j pair _
      (behind_within rows net labels order of i j pair j pair.within)))

  -- each identity has the label that it had
  label_kept : (id : ℕ) → label_of (crossed_rows rows order i j) labels id ≡ label id
  label_kept id = ap (λ (o : Option ℕ). unwrap_or (option_and_then (slice_get labels) o) [])
      (position-map (cross_row ends) (λ (row : NodeRow). id == row.id) rows)

  seen_kept : (row : NodeRow)
      → seen (label_of (crossed_rows rows order i j) labels) (cross_row ends row) ≡ seen label row
  seen_kept row =
      let ports : map (seen_port (label_of (crossed_rows rows order i j) labels))
      (map (cross_port ends row.id) row.ports) ≡ map (seen_port label) row.ports =
      map-map (seen_port (label_of (crossed_rows rows order i j) labels)) (cross_port ends row.id) row.ports
      ∙ map_same (λ (port : Port). seen_port (label_of (crossed_rows rows order i j) labels)
      (cross_port ends row.id port)) (seen_port label) row.ports
      (λ port. ap (λ (label : List Bool). record { weight = port.weight; label = label })
      (label_kept (named_after ends row.id port.nbr)
      ∙ same_label ends label tails heads row.id port.nbr)) in
      ap (λ (own : List Bool). record {
        id = row.id;
        state = row.state;
        own = own;
        ports = map (seen_port (label_of (crossed_rows rows order i j) labels))
            (map (cross_port ends row.id) row.ports);
      }) (label_kept row.id)
      ∙ ap (λ (ports : List SeenPort). record {
        id = row.id;
        state = row.state;
        own = label row.id;
        ports = ports;
      }) ports

  pub same_views : views (crossed_rows rows order i j) labels ≡ views rows labels
  same_views =
      map-map (seen (label_of (crossed_rows rows order i j) labels)) (cross_row ends) rows
      ∙ map_same (λ (row : NodeRow). seen (label_of (crossed_rows rows order i j) labels)
      (cross_row ends row)) (seen label) rows seen_kept
