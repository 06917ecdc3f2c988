use Rattle.std.proofs.Common.{◌≡◌, ◌∙◌, ◌<◌, ℕ, List, Bool, Some, length, ap, sym, subst, arith, slice_get, refl}
use Rattle.std.specs.Option.{option_map}
use Rattle.std.proofs.lemmas.List.{length-set}
use Rattle.std.proofs.lemmas.Option.{same_Some, slice_get_within}
use Rattle.pls_configuration.specs.declared.row.NodeRow.{NodeRow}
use Rattle.pls_numbers.specs.Shape.{IsSpelled}
use Rattle.pls_scheme.proofs.Storing.{right_more}
use Rattle.pls_universal.specs.Map.{map_of}
use Rattle.pls_universal.specs.Reading.{map_label_with, map_shape, rows_shape}
use Rattle.pls_universal.proofs.marking.map_labels.Goals as goal

pub loop-i-preserved : goal.loop-i-preserved
loop-i-preserved g c =
    let code : ℕ → List Bool = g.C.NumCode.code in
    let rows : List NodeRow = c.args.net.now in
    let i : ℕ = c.loop-i.i in
    let right : NodeRow → List Bool → Type 0 =
    λ row bits. IsSpelled map_shape code bits (map_label_with row.id (map_of rows)) in
    let within : i < length rows = omega (arith, c.loop-i-test.true, c.len-i-end.ensures.len) in
    let is_map : IsSpelled rows_shape code c.bits.result (map_of rows) =
    subst (λ (bits : List Bool). IsSpelled rows_shape code bits (map_of rows))
    (sym c.bits.ensures) c.in_ok-map.ensures in
    let here : (row : NodeRow) → slice_get rows i ≡ Some row → right row c.put_label.new.bits =
    λ row at.
    let id : row.id ≡ c.node.result.0 = same_Some row.id c.node.result.0
    (sym (ap (option_map (λ (row : NodeRow). row.id)) at) ∙ c.node.ensures.id) in
    subst (λ (id : ℕ). IsSpelled map_shape code c.put_label.new.bits
    (map_label_with id (map_of rows))) (sym id)
    (c.in_ok-put_label.ensures (map_of rows) is_map) in
    let replaced = c.in_ok-replace.ensures.replaced in record {
      each = ap length replaced ∙ length-set c.loop-i.labels i c.put_label.new.bits
          ∙ c.loop-i.invariant.each;
      right = λ place row bits below at stored.
          right_more right rows c.loop-i.labels i c.put_label.new.bits c.loop-i.invariant.each within
          here c.loop-i.invariant.right place row bits below at (rw replaced at stored);
    }

pub returns : goal.returns
returns g c = record {
  each = c.loop-i.invariant.each;
  label = λ place row bits at stored.
      let within = slice_get_within c.args.net.now place row at in (
        map_label_with row.id (map_of c.args.net.now),
        c.loop-i.invariant.right place row bits
            (omega (arith, within, c.loop-i-test.false, c.len-i-end.ensures.len)) at stored,
        (refl, refl),
      );
}
