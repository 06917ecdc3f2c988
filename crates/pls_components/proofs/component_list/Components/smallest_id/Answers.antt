use Rattle.std.proofs.Common.{◌≡◌, ◌∙◌, ◌<◌, ℕ, Some, get_or, length, slice_get, sym, arith}
use Rattle.std.proofs.lemmas.Option.{same_Some, slice_get-get_or}
use Rattle.pls_configuration.specs.declared.row.NodeRow.{NodeRow}
use Rattle.pls_graph.proofs.Finds.{from_option_map}
use Rattle.pls_graph.proofs.Members.{Contains-from_place}
use Rattle.pls_components.specs.Components.{IsComponent, least_id}
use Rattle.pls_components.proofs.Apart.{least_first}
use Rattle.pls_components.proofs.Part.{places_within}
use Rattle.pls_components.proofs.component_list.Components.smallest_id.Goals as goal

pub bounds-members-0 : goal.bounds-members-0
bounds-members-0 c =
    let is : IsComponent c.args.net.now c.members.result.now =
    c.requires.made.each c.members.result.now
    (Contains-from_place c.args.self.now c.args.k c.members.result.now c.members.ensures) in
    let some = is.own.1 in omega arith

pub node-requires : goal.node-requires
node-requires c =
    let is : IsComponent c.args.net.now c.members.result.now =
    c.requires.made.each c.members.result.now
    (Contains-from_place c.args.self.now c.args.k c.members.result.now c.members.ensures) in
    places_within c.args.net.now c.is_valid.ensures c.members.result.now is 0 0
    (let some = is.own.1 in omega arith)

pub returns : goal.returns
returns c = λ named at.
    let places = c.members.result.now in
    let is : IsComponent c.args.net.now places =
    c.requires.made.each places
    (Contains-from_place c.args.self.now c.args.k places c.members.ensures) in
    let some : 0 < length places = let own = is.own.1 in omega arith in
    let place : ℕ = get_or places 0 0 in
    let (row, there, same) : (row : NodeRow) × (slice_get c.args.net.now place ≡ Some row)
    × (row.id ≡ c.node.result.0) =
    from_option_map (λ (row : NodeRow). row.id) (slice_get c.args.net.now place) c.node.result.0
    c.node.ensures.id in
    let least : least_id c.args.net.now places ≡ c.node.result.0 =
    least_first c.args.net.now c.is_valid.ensures places is place row
    (slice_get-get_or places 0 0 some) there ∙ same in
    let here : places ≡ named = same_Some places named (sym c.members.ensures ∙ at) in
    sym (rw here at least)
