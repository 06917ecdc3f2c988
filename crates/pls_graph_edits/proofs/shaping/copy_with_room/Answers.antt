use Rattle.std.proofs.Common.{◌≡◌, ◌∙◌, ◌+◌, ◌++◌, [], ◌∷◌, List, ℕ, length, take, option_map, slice_get, Option, Some, None, sym, ap, arith}
use Rattle.std.proofs.lemmas.List.{take_all, take_more}
use Rattle.std.proofs.lemmas.Option.{get_or_from_slice_get, same_Some, slice_get_within}
use Rattle.pls_configuration.specs.declared.row.Port.{Port}
use Rattle.pls_configuration.specs.declared.row.NodeRow.{NodeRow}
use Rattle.pls_graph.specs.inner.Placed.{Placed}
use Rattle.pls_graph.proofs.Agreed.{row_by_parts}
use Rattle.pls_graph_edits.proofs.shaping.copy_with_room.Goals as goal

-- the front with one item more
more : {X : Type 0} (xs front now : List X) (i : ℕ) (x : X) → slice_get xs i ≡ Some x
    → front ≡ take i xs → now ≡ front ++ x ∷ [] → now ≡ take (i + 1) xs
more xs front now i x at is made = made ∙ ap (λ (front : List _). front ++ x ∷ []) is
    ∙ ap (λ (last : _). take i xs ++ last ∷ []) (sym (get_or_from_slice_get xs i x x at))
    ∙ sym (take_more xs i x (slice_get_within xs i x at))

counted : (row : Option NodeRow) (ports : List Port) (count : ℕ)
    → option_map (λ (row : NodeRow). row.ports) row ≡ Some ports
    → option_map (λ (row : NodeRow). length row.ports) row ≡ Some count → count ≡ length ports
counted None ports count has many = absurd (cc)
counted (Some row) ports count has many = sym (same_Some (length row.ports) count many)
    ∙ ap (λ (ports : List Port). length ports) (same_Some row.ports ports has)

pub add_row-requires : goal.add_row-requires
add_row-requires c = counted (slice_get c.args.table.now.rows c.loop-i.i) c.ports.result.now
    (length c.places.result.now) c.ports.ensures c.places.ensures.each

pub loop-i-preserved : goal.loop-i-preserved
loop-i-preserved c =
    let row : NodeRow = record { id = c.node-id.result.0; state = c.node-id.result.1; ports = c.ports.result.now } in
    let rows = c.args.table.now.rows in
    record {
      rows = more rows c.loop-i.packed.rows c.add_row.new.self.rows c.loop-i.i row
          (row_by_parts (slice_get rows c.loop-i.i) row.id row.state row.ports c.node-id.ensures.id
          c.node-id.ensures.state c.ports.ensures) c.loop-i.invariant.rows c.in_ok-add_row.ensures.rows;
      places = more c.args.table.now.places c.loop-i.packed.places c.add_row.new.self.places c.loop-i.i
          c.places.result.now c.places.ensures.places c.loop-i.invariant.places
          c.in_ok-add_row.ensures.places;
    }

pub returns : goal.returns
returns c =
    let past = c.loop-i-test.false in
    let rows = c.loop-i.invariant.rows
    ∙ take_all c.loop-i.i c.args.table.now.rows (omega (arith, c.len-i-end.ensures.rows)) in
    let places = c.loop-i.invariant.places
    ∙ take_all c.loop-i.i c.args.table.now.places (omega (arith, c.len-i-end.ensures.places)) in
    ap (λ (rows : List NodeRow). pair rows c.loop-i.packed.places) rows
    ∙ ap (pair c.args.table.now.rows) places
  where
    pair : List NodeRow → List (List ℕ) → Placed
    pair rows places = record { rows = rows; places = places }
