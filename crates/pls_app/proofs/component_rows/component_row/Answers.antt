use Rattle.std.proofs.Common.{arith}
use Rattle.pls_graph.proofs.Members.{Contains-from_place}
use Rattle.pls_components.specs.Components.{IsComponent}
use Rattle.pls_components.proofs.Part.{places_within}
use Rattle.pls_app.proofs.ComponentRows.{few_places}
use Rattle.pls_app.proofs.component_rows.component_row.Goals as goal

pub failing_at-rejecting-requires-clause-few : goal.failing_at-rejecting-requires-clause-few
failing_at-rejecting-requires-clause-few c =
    let places = c.members-places.result.now in
    few_places c.args.net.now places c.is_valid.ensures
    (c.requires.made.each places
    (Contains-from_place c.args.parts.now c.args.k places c.members-places.ensures))

pub failing_at-rejecting-requires-clause-within : goal.failing_at-rejecting-requires-clause-within
failing_at-rejecting-requires-clause-within c k d within =
    let places = c.members-places.result.now in
    let is : IsComponent c.args.net.now places =
    c.requires.made.each places
    (Contains-from_place c.args.parts.now c.args.k places c.members-places.ensures) in
    omega (
      arith,
      places_within c.args.net.now c.is_valid.ensures places is k d within,
      c.requires.each,
    )

pub overflow_cast-result : goal.overflow_cast-result
overflow_cast-result c =
    let places = c.members-places.result.now in
    omega (
      arith,
      few_places c.args.net.now places c.is_valid.ensures
          (c.requires.made.each places
          (Contains-from_place c.args.parts.now c.args.k places c.members-places.ensures)),
    )

pub overflow_cast-result-2 : goal.overflow_cast-result-2
overflow_cast-result-2 c =
    let places = c.members-places.result.now in
    omega (
      arith,
      few_places c.args.net.now places c.is_valid.ensures
          (c.requires.made.each places
          (Contains-from_place c.args.parts.now c.args.k places c.members-places.ensures)),
      c.failing_at-rejecting.ensures.few.0,
    )

pub overflow_cast-result-3 : goal.overflow_cast-result-3
overflow_cast-result-3 c =
    let places = c.members-places.result.now in
    omega (
      arith,
      few_places c.args.net.now places c.is_valid.ensures
          (c.requires.made.each places
          (Contains-from_place c.args.parts.now c.args.k places c.members-places.ensures)),
      c.failing_at-rejecting.ensures.few.1,
    )
