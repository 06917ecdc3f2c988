use Rattle.std.proofs.Common.{◌≡◌, ◌∙◌, ℕ, List, Option, Some, get_or, slice_get, option_map, sym, ap}
use Rattle.std.specs.Option.{option_and_then, option_map_or}
use Rattle.std.proofs.lemmas.Option.{same_Some, slice_get-get_or}
use Rattle.pls_configuration.specs.declared.row.Port.{Port}
use Rattle.pls_configuration.specs.declared.row.State.{State}
use Rattle.pls_configuration.specs.declared.row.NodeRow.{NodeRow}
use Rattle.pls_search.proofs.Pointed.{up_within}
use Rattle.pls_levels.proofs.making.parent_at.Goals as goal

pub bounds-ports-up : goal.bounds-ports-up
bounds-ports-up c =
    up_within c.args.net.now c.node-id.ensures.valid c.args.place c.node-id.result.1
    c.node-id.ensures.state c.ports.result.now c.in-Some.up c.ports.ensures c.in-Some.is

pub returns-in-Some : goal.returns-in-Some
returns-in-Some c row at =
    let up : ℕ = c.in-Some.up in
    let none : Port = record { nbr = 0; weight = 0 } in
    let within = up_within c.args.net.now c.node-id.ensures.valid c.args.place c.node-id.result.1
    c.node-id.ensures.state c.ports.result.now up c.ports.ensures c.in-Some.is in
    let ports : c.ports.result.now ≡ row.ports = same_Some c.ports.result.now row.ports
    (sym c.ports.ensures ∙ ap (option_map (λ (row : NodeRow). row.ports)) at) in
    let state : c.node-id.result.1 ≡ row.state = same_Some c.node-id.result.1 row.state
    (sym c.node-id.ensures.state ∙ ap (option_map (λ (row : NodeRow). row.state)) at) in
    let points : row.state.up ≡ Some up =
    ap (λ (state : State). state.up) (sym state) ∙ c.in-Some.is in
    let has : slice_get row.ports up ≡ Some (get_or c.ports.result.now up none) =
    ap (λ (ports : List Port). slice_get ports up) (sym ports)
    ∙ slice_get-get_or c.ports.result.now up none within in
    sym (ap (λ (port : Option Port). option_map_or (λ (port : Port). port.nbr) port row.id)
    (ap (option_and_then (slice_get row.ports)) points ∙ has))
