use Rattle.std.proofs.Common.{◌∙◌, List, Some, option_map, ap, sym, subst}
use Rattle.std.proofs.lemmas.Option.{slice_get-map}
use Rattle.pls_configuration.specs.declared.row.NodeRow.{NodeRow}
use Rattle.pls_configuration.specs.Configuration.{AreWithinLimits}
use Rattle.pls_components.specs.Components.{items_at}
use Rattle.pls_components.proofs.Part.{part_network, places_within}
use Rattle.pls_components.proofs.PartPlaces.{component_at}
use Rattle.pls_components.proofs.component_list.Components.part.Goals as goal

pub size_at-ports-requires-clause-within : goal.size_at-ports-requires-clause-within
size_at-ports-requires-clause-within c =
    let places = c.members-places.result.now in
    places_within c.args.net.now c.is_valid.ensures places
    (component_at c.args.net.now c.args.self.now c.requires.made c.args.k places
    c.members-places.ensures)

pub size_at-ports-requires-clause-network : goal.size_at-ports-requires-clause-network
size_at-ports-requires-clause-network c =
    let places = c.members-places.result.now in
    part_network c.args.net.now c.is_valid.ensures places
    (component_at c.args.net.now c.args.self.now c.requires.made c.args.k places
    c.members-places.ensures)

pub rows_of-requires : goal.rows_of-requires
rows_of-requires c =
    let places = c.members-places.result.now in
    places_within c.args.net.now c.is_valid.ensures places
    (component_at c.args.net.now c.args.self.now c.requires.made c.args.k places
    c.members-places.ensures)

pub build-requires : goal.build-requires
build-requires c =
    let places = c.members-places.result.now in
    let network = part_network c.args.net.now c.is_valid.ensures places
    (component_at c.args.net.now c.args.self.now c.requires.made c.args.k places
    c.members-places.ensures) in
    record { within_limits = subst AreWithinLimits (sym c.in_ok-rows.ensures) network.limits }

pub returns-in-Ok : goal.returns-in-Ok
returns-in-Ok c =
    slice_get-map (items_at c.args.net.now) c.args.self.now c.args.k
    ∙ ap (option_map (items_at c.args.net.now)) c.members-places.ensures
    ∙ ap (λ (rows : List NodeRow). Some rows) (sym (c.in-Ok.ensures.ok ∙ c.in_ok-rows.ensures))
