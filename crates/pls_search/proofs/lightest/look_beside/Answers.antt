use Rattle.std.proofs.Common.{◌≡◌, ◌∙◌, ◌+◌, ◌∷◌, ◌<◌, ◌^◌, ℕ, All, List, [], Option, Some, IsPermutation, map, take, get_or, slice_get, heap_items, rules, sym, ap, subst, arith}
use Rattle.std.specs.Option.{option_map_or}
use Rattle.std.proofs.lemmas.List.{get_or-map, take_more}
use Rattle.std.proofs.lemmas.List.Elements.{All-push}
use Rattle.pls_configuration.specs.declared.row.Port.{Port}
use Rattle.pls_configuration.specs.declared.row.NodeRow.{NodeRow}
use Rattle.pls_graph.specs.Places.{named_places, place_in}
use Rattle.pls_graph.proofs.Finds.{from_option_map}
use Rattle.pls_search.specs.inner.Ahead.{reached_at, reached_by}
use Rattle.pls_search.proofs.Adding.{added_more}
use Rattle.pls_search.proofs.lightest.look_beside.Goals as goal

pub loop-p-preserved : goal.loop-p-preserved
loop-p-preserved c =
    let rows = c.args.net.now in
    let ports = c.ports-port-items.result.now in
    let places = c.places-places.result.now in
    let p = c.loop-p.p in
    let none : Port = record { nbr = 0; weight = 0 } in
    let port : Port = get_or ports p none in
    let (row, at, is) : (row : NodeRow) × (slice_get rows c.args.place ≡ Some row)
    × (row.ports ≡ ports) =
    from_option_map (λ (row : NodeRow). row.ports) (slice_get rows c.args.place) ports
    c.ports-port-items.ensures in
    let beside_ports : places ≡ map (λ (port : Port). place_in rows port.nbr) ports =
    c.places-places.ensures.places
    ∙ ap (λ (row : Option NodeRow). option_map_or (λ (row : NodeRow). named_places rows row.ports)
    row []) at
    ∙ ap (λ (ports : List Port). map (λ (port : Port). place_in rows port.nbr) ports) is in
    let place : get_or places p 0 ≡ place_in rows port.nbr =
    ap (λ (places : List ℕ). get_or places p 0) beside_ports
    ∙ get_or-map (λ (port : Port). place_in rows port.nbr) ports p none 0 c.loop-p-test.true in
    let weighs : c.from.result ≡ port.weight = c.from.ensures in
    let few : port.weight < 2 ^ 32 = search rules in
    let light_ports : List Port → Type 0 = All (λ (port : Port). port.weight < 2 ^ 32) in
    let old = heap_items c.loop-p.ahead in
    let new = heap_items c.push.new.self in
    let (order, len, so_far, light) = c.loop-p.invariant in (
      c.in_ok-push.ensures.heap_order order,
      omega (arith, c.in_ok-push.ensures.len, len),
      added_more (reached_at rows c.args.weight) (heap_items c.args.ahead.now) old new ports p none
          c.loop-p-test.true so_far
          (subst (λ (weight : ℕ). IsPermutation
          (reached_by (c.args.weight + weight) (place_in rows port.nbr) ∷ old) new) weighs
          (subst (λ (place : ℕ). IsPermutation
          (reached_by (c.args.weight + c.from.result) place ∷ old) new) place
          c.in_ok-push.ensures.permutation)),
      subst light_ports (sym (take_more ports p none c.loop-p-test.true))
          (All-push (λ (port : Port). port.weight < 2 ^ 32) (take p ports) port light few),
    )
