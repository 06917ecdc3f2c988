use Rattle.std.proofs.Common.{◌≡◌, ◌∙◌, ℕ, List, [], Option, Some, get_or, length, map, option_map, slice_get, sym, ap, subst, arith}
use Rattle.std.specs.Option.{option_map_or}
use Rattle.std.proofs.lemmas.List.{get_or-map}
use Rattle.std.proofs.lemmas.Option.{same_Some, slice_get-get_or}
use Rattle.pls_configuration.specs.declared.row.Port.{Port}
use Rattle.pls_configuration.specs.declared.row.NodeRow.{NodeRow}
use Rattle.pls_graph.specs.Places.{named_places, place_in}
use Rattle.pls_graph.proofs.Finds.{from_option_map}
use Rattle.pls_facts.specs.SpanningTree.{edge_at}
use Rattle.pls_boruvka.specs.declared.choice.Choice.{Choice}
use Rattle.pls_boruvka.specs.inner.Choices.{ChildOf, IsChoice, IsFirstOf, LeavesTop, choice_at, top_at}
use Rattle.pls_boruvka.proofs.Firsts.{LeavesTop-next, OrAt, OrAt-all, OrAt-inside, OrAt-lighter, OrAt-more, OrAt-none}
use Rattle.pls_boruvka.proofs.Pointing.{IsChoice-at}
use Rattle.pls_boruvka.proofs.choosing.first_with.Goals.{then-tops-other+else-not-is_lighter, then-tops-other+then-not-is_lighter, else-tops-other}
use Rattle.pls_boruvka.proofs.choosing.first_with.Goals as goal

pub loop-p-init : goal.loop-p-init
loop-p-init c =
    let rows = c.args.net.now in
    let tops = c.args.tops.now in
    OrAt-none rows tops c.args.place (LeavesTop rows tops c.args.place (top_at tops c.args.place))
    c.args.before c.requires.before

pub loop-p-preserved : goal.loop-p-preserved
loop-p-preserved c =
    let rows = c.args.net.now in
    let tops = c.args.tops.now in
    let place = c.args.place in
    let ports = c.ports-port-items.result.now in
    let Old : Choice → Type 0 = LeavesTop rows tops place (top_at tops place) in
    let places = c.places-places.result.now in
    let p = c.loop-p.p in
    let none : Port = record { nbr = 0; weight = 0 } in
    let port : Port = get_or ports p none in
    let (row, at, is) : (row : NodeRow) × (slice_get rows place ≡ Some row)
    × (row.ports ≡ ports) =
    from_option_map (λ (row : NodeRow). row.ports) (slice_get rows place) ports
    c.ports-port-items.ensures in
    let has : slice_get row.ports p ≡ Some port =
    ap (λ (ports : List Port). slice_get ports p) is
    ∙ slice_get-get_or ports p none c.loop-p-test.true in
    let named : row.id ≡ c.node-id.result.0 = same_Some row.id c.node-id.result.0
    (sym (ap (option_map (λ (row : NodeRow). row.id)) at) ∙ c.node-id.ensures.id) in
    let beside_ports : places ≡ map (λ (port : Port). place_in rows port.nbr) ports =
    c.places-places.ensures.places
    ∙ ap (λ (row : Option NodeRow). option_map_or (λ (row : NodeRow). named_places rows row.ports)
    row []) at
    ∙ ap (λ (ports : List Port). map (λ (port : Port). place_in rows port.nbr) ports) is in
    let spot : get_or places p 0 ≡ place_in rows port.nbr =
    ap (λ (places : List ℕ). get_or places p 0) beside_ports
    ∙ get_or-map (λ (port : Port). place_in rows port.nbr) ports p none 0 c.loop-p-test.true in
    elim c.if-tops-other.branch [
      | then-tops-other+then-not-is_lighter w ↦ rw w.first-is (OrAt-more rows tops place Old p row port at has
          (λ same. w.if-tops-other.true (ap (λ (other : ℕ). get_or tops other 0) spot ∙ same))
          c.loop-p.first w.earlier-first.result w.choice_at.result c.loop-p.invariant
          (subst (IsChoice rows (edge_at row port))
          (ap (λ (id : ℕ). choice_at id port w.child_of-child.result) named
          ∙ sym w.choice_at.ensures)
          (IsChoice-at rows c.node-id.ensures.valid c.args.parents.now c.requires.parents place p
          row port at has w.child_of-child.result
          (subst (λ (other : ℕ). ChildOf c.args.parents.now place other w.child_of-child.result)
          spot w.child_of-child.ensures)))
          w.earlier-first.ensures)
      | then-tops-other+else-not-is_lighter w ↦ rw w.first-is (OrAt-lighter rows tops place Old p row
          port at has (λ same. w.if-tops-other.true
          (ap (λ (other : ℕ). get_or tops other 0) spot ∙ same)) c.loop-p.first
          (w.is_lighter.ensures w.if-not-is_lighter.false) c.loop-p.invariant)
      | else-tops-other w ↦ rw w.first-is (OrAt-inside rows tops place Old p row port at has
          (sym (ap (λ (other : ℕ). get_or tops other 0) spot) ∙ w.if-tops-other.false)
          c.loop-p.first c.loop-p.invariant)
    ]

pub returns : goal.returns
returns c =
    let rows = c.args.net.now in
    let tops = c.args.tops.now in
    let place = c.args.place in
    let Old : Choice → Type 0 = LeavesTop rows tops place (top_at tops place) in
    let ports = c.ports-port-items.result.now in
    let (row, at, is) : (row : NodeRow) × (slice_get rows place ≡ Some row)
    × (row.ports ≡ ports) =
    from_option_map (λ (row : NodeRow). row.ports) (slice_get rows place) ports
    c.ports-port-items.ensures in
    let many = ap length is in
    let all : c.loop-p.p ≡ length row.ports =
    omega (arith, many, c.loop-p-test.false, c.loop-p.auto.p-end) in
    LeavesTop-next rows tops place c.loop-p.first
    (OrAt-all rows tops place Old row at c.loop-p.first
    (subst (λ (count : ℕ). IsFirstOf (OrAt rows tops place Old count) c.loop-p.first) all
    c.loop-p.invariant))
