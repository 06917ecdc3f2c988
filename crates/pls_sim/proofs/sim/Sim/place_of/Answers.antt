use Rattle.std.proofs.Common.{◌≡◌, ◌∙◌, ◌==◌, ℕ, List, Some, position, slice_get, sym, ap, subst}
use Rattle.std.specs.Option.{IfSome}
use Rattle.std.proofs.lemmas.Option.{slice_get-map}
use Rattle.pls_configuration.specs.declared.row.NodeRow.{NodeRow}
use Rattle.pls_graph.proofs.Finds.{from_option_map}
use Rattle.pls_graph.proofs.Placed.{place_of_row}
use Rattle.pls_sim.specs.Applying.{Played}
use Rattle.pls_sim.proofs.sim.Sim.place_of.Goals as goal

pub returns-in-Some-clause-place : goal.returns-in-Some-clause-place
returns-in-Some-clause-place c =
    let rows = c.self.inside.net.now in
    let network = ap (λ (played : Played). played.network) c.self.view_is in
    let place : ℕ = c.in-Some.place in
    let noted : slice_get c.self.inside.ways.ids place ≡ Some c.args.id =
    subst (λ o. IfSome o (λ place. slice_get c.self.inside.ways.ids place ≡ Some c.args.id))
    c.in-Some.is c.place_near.ensures in
    let row : (row : NodeRow) × (slice_get rows place ≡ Some row) × (row.id ≡ c.args.id) =
    from_option_map (λ (row : NodeRow). row.id) (slice_get rows place) c.args.id
    (sym (slice_get-map (λ (row : NodeRow). row.id) rows place)
    ∙ ap (λ (ids : List ℕ). slice_get ids place) (sym c.self.invariant.0.are_ids) ∙ noted) in
    sym (ap (position (λ (row : NodeRow). c.args.id == row.id)) (sym network)
    ∙ subst (λ (id : ℕ). position (λ (row : NodeRow). id == row.id) rows ≡ Some place) row.2
    (place_of_row rows c.self.invariant.0.network place row.0 row.1))
