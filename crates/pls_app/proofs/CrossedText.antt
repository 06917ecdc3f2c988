-- A ring in which two edges are crossed can stand in a text, where the ring can.
use Rattle.std.proofs.Common.{◌≡◌, ℕ, ◌<◌, ◌^◌, ◌==◌, ◌&&◌, Bool, true, false, if◌then◌else◌, List, length, slice_get, get_or, Option, Some, None, refl, arith}
use Rattle.std.specs.Option.{option_map_or}
use Rattle.std.proofs.lemmas.List.{length-map}
use Rattle.std.proofs.lemmas.List.Elements.{All-map}
use Rattle.pls_configuration.specs.declared.row.NodeRow.{NodeRow}
use Rattle.pls_graph_edits.proofs.Changing.{All_here}
use Rattle.pls_netfile.specs.NetworkText.{AreRows, FitsPort, FitsRow}
use Rattle.pls_splice.specs.Crossing.{cross_port, cross_row, crossed_rows, ends_of, id_at, named_after}
use Rattle.pls_splice.specs.Ring.{head_of, tail_of}

-- of two small numbers either is small
either : (test : Bool) (x y : ℕ) → x < 2 ^ 32 → y < 2 ^ 32 → (if test then x else y) < 2 ^ 32
either true x y one other = one
either false x y one other = other

module _ (rows : List NodeRow) (fit : AreRows rows) where
  id_small : (place : ℕ) → id_at rows place < 2 ^ 32
  id_small place = by (slice_get rows place) refl
    where
      by : (found : Option NodeRow) → slice_get rows place ≡ found
          → option_map_or (λ (row : NodeRow). row.id) found 0 < 2 ^ 32
      by None at = omega arith
      by (Some row) at = (All_here FitsRow rows fit.each place row at).id

  module _ (order : List ℕ) (i j : ℕ) where
    -- so is the identity of the neighbour that a port names behind the crossing
    named_small : (own nbr : ℕ) → nbr < 2 ^ 32
        → named_after (ends_of rows order i j) own nbr < 2 ^ 32
    named_small own nbr few =
        let tail : ℕ = id_at rows (tail_of order i) in
        let head : ℕ = id_at rows (head_of order i) in
        let other_tail : ℕ = id_at rows (tail_of order j) in
        let other_head : ℕ = id_at rows (head_of order j) in
        either (own == tail && nbr == head) other_head _ (id_small (head_of order j))
        (either (own == other_tail && nbr == other_head) head _ (id_small (head_of order i))
        (either (own == head && nbr == tail) other_tail _ (id_small (tail_of order j))
        (either (own == other_head && nbr == other_tail) tail nbr (id_small (tail_of order i)) few)))

    row_fits : (row : NodeRow) → FitsRow row → FitsRow (cross_row (ends_of rows order i j) row)
    row_fits row fits = record {
      id = fits.id;
      state = fits.state;
      ports = All-map FitsPort (cross_port (ends_of rows order i j) row.id) row.ports
          (λ k d within.
          let port = get_or row.ports k d in
          record {
            nbr = named_small row.id port.nbr (fits.ports k d within).nbr;
            weight = (fits.ports k d within).weight;
          });
    }

    pub crossed_fit : AreRows (crossed_rows rows order i j)
    crossed_fit =
        let many : length (crossed_rows rows order i j) ≡ length rows =
        length-map rows (cross_row (ends_of rows order i j)) in
        record {
          some = let some = fit.some in omega arith;
          each = All-map FitsRow (cross_row (ends_of rows order i j)) rows (λ k d within.
              row_fits (get_or rows k d) (fit.each k d within));
        }
