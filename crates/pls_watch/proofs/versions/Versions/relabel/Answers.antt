use Rattle.std.proofs.Common.{◌≡◌, ◌≢◌, ◌∙◌, ◌∷◌, [], List, map, ℕ, slice_get, subst, ◌<◌, ◌+◌, ◌==◌, length, get_or, position, Option, Some, is_none, sym, ap, arith}
use Rattle.std.proofs.lemmas.List.{length-map, map-append}
use Rattle.std.proofs.lemmas.Option.{slice_get_within}
use Rattle.pls_configuration.specs.declared.row.NodeRow.{NodeRow}
use Rattle.pls_configuration.specs.Configuration.{row_of, refused_if}
use Rattle.pls_sim.specs.declared.event_error.EventError.TheVariants.{NoNode}
use Rattle.pls_sim.proofs.Numbering.{value_at}
use Rattle.pls_sim.proofs.Refusing.{at_place, none_found, place_within}
use Rattle.pls_watch.specs.declared.giving.Giving.{Giving}
use Rattle.pls_watch.specs.declared.turn.Turn.TheVariants.{Relabel}
use Rattle.pls_watch.specs.inner.Woven.{woven}
use Rattle.pls_watch.specs.Turning.{Turned, turning}
use Rattle.pls_watch.proofs.More.{held_relabel, newest_few}
use Rattle.pls_watch.proofs.Keep.{kept_relabel, rooms_more, round_relabel}
use Rattle.pls_watch.specs.inner.Numbers.{relabelled}
use Rattle.pls_watch.proofs.Arrived.{by_round, not_there, place_there}
use Rattle.pls_watch.proofs.Woven.{more_givings, woven_giving}
use Rattle.pls_watch.proofs.Numbers.{few_given}
use Rattle.pls_watch.proofs.Numbered.{numbered_relabel}
use Rattle.pls_watch.proofs.versions.Versions.relabel.Goals as goal

pub returns-in_default-clause-refused : goal.returns-in_default-clause-refused
returns-in_default-clause-refused c =
    let none = none_found c.self.inside.net.now c.args.node
    (place_there _ _ c.args.node _ c.self.invariant.0.network c.place_of.ensures.place
    ∙ c.in_default.is) in
    by_round c.args.self.now (Relabel c.args.node) c.requires
    ∙ ap (λ (turned : Turned). refused_if (is_none (row_of turned.network c.args.node)) NoNode)
    (sym c.self.view_is)
    ∙ ap (λ (o : Option NodeRow). refused_if (is_none o) NoNode) none

pub returns-clause-applies : goal.returns-clause-applies
returns-clause-applies c =
    let rows = c.self.inside.net.now in
    let found : position (λ row. c.args.node == row.id) rows ≡ Some c.in-Some.place =
    place_there _ _ c.args.node _ c.self.invariant.0.network c.place_of.ensures.place
    ∙ c.in-Some.is in
    let at = at_place rows c.self.invariant.1.is_network c.args.node c.in-Some.place
    (place_within rows c.args.node c.in-Some.place found) found in
    by_round c.args.self.now (Relabel c.args.node) c.requires
    ∙ ap (λ (turned : Turned). refused_if (is_none (row_of turned.network c.args.node)) NoNode)
    (sym c.self.view_is)
    ∙ ap (λ (o : Option NodeRow). refused_if (is_none o) NoNode) at.found

pub overflow_add-newest : goal.overflow_add-newest
overflow_add-newest c =
    let old = c.self.inside in
    let rows = old.net.now in
    let kept = c.self.invariant.1 in
    let found : position (λ row. c.args.node == row.id) rows ≡ Some c.in-Some.place =
    place_there _ _ c.args.node _ c.self.invariant.0.network c.place_of.ensures.place
    ∙ c.in-Some.is in
    let at = at_place rows kept.is_network c.args.node c.in-Some.place
    (place_within rows c.args.node c.in-Some.place found) found in
    let value : get_or old.newest.versions c.in-Some.place 0 ≡ c.get-newest.result.version =
    value_at old.newest.versions c.in-Some.place c.get-newest.result.version
    (omega (arith, slice_get_within rows c.in-Some.place at.row at.stands, kept.each_node))
    c.get-newest.ensures.version in
    omega (
      arith,
      value,
      kept.are_newest c.in-Some.place at.row at.stands,
      newest_few (woven old.sim.events old.givings.items) at.row.id,
      c.self.invariant.2.few,
      c.self.invariant.4.small,
    )

pub invariant_of-self : goal.invariant_of-self
invariant_of-self c =
    let old = c.self.inside in
    let rows = old.net.now in
    let kept = c.self.invariant.1 in
    let found : position (λ row. c.args.node == row.id) rows ≡ Some c.in-Some.place =
    place_there _ _ c.args.node _ c.self.invariant.0.network c.place_of.ensures.place
    ∙ c.in-Some.is in
    let at = at_place rows kept.is_network c.args.node c.in-Some.place
    (place_within rows c.args.node c.in-Some.place found) found in
    let value : get_or old.newest.versions c.in-Some.place 0 ≡ c.get-newest.result.version =
    value_at old.newest.versions c.in-Some.place c.get-newest.result.version
    (omega (arith, slice_get_within rows c.in-Some.place at.row at.stands, kept.each_node))
    c.get-newest.ensures.version in
    let room : length (woven old.sim.events old.givings.items) < old.most =
    omega (
      arith,
      c.requires,
      ap (λ (turned : Turned). turned.most) c.self.view_is,
      ap (λ (turned : Turned). length turned.turns) c.self.view_is,
    ) in
    let label : get_or old.newest.labels c.in-Some.place 0 ≡ c.get-newest.result.label =
    value_at old.newest.labels c.in-Some.place c.get-newest.result.label
    (omega (
      arith,
      slice_get_within rows c.in-Some.place at.row at.stands,
      c.self.invariant.3.each_node,
    ))
    c.get-newest.ensures.label in
    let many_earlier : length (map (λ (giving : Giving). giving.earlier) old.givings.items)
    ≡ length old.givings.items =
    length-map old.givings.items (λ (giving : Giving). giving.earlier) in
    let number : length rows + length (relabelled (woven old.sim.events old.givings.items)) ≡ c.len.result + c.len-2.result =
    omega (arith, c.len.ensures, c.len-2.ensures, c.self.invariant.3.each_given, many_earlier, old.givings.ok.0)
    in
    let givings : List Giving = old.givings.items in
    let giving : Giving = record {
      node = c.args.node;
      behind = c.len-behind.result;
      earlier = c.get-newest.result.label;
    } in
    let grown = woven_giving old.sim.events givings giving c.len-behind.ensures in
    let known = map-append (λ (giving : Giving). giving.earlier) givings (giving ∷ []) in
    rw (
      c.push_reserved.ensures.items,
      c.push_reserved.ensures.capacity,
      grown,
      known,
      c.set.ensures.versions,
      c.set.ensures.labels,
      ← value,
      ← label,
      ← number,
    ) (
      round_relabel rows old.most (woven old.sim.events old.givings.items) c.args.node old.sim c.self.invariant.0,
      kept_relabel rows (woven old.sim.events old.givings.items) _ _ _ kept c.args.node c.in-Some.place at.row at.stands
          at.is,
      rooms_more old.most _ _ (woven old.sim.events old.givings.items) _ room c.self.invariant.2,
      numbered_relabel rows (woven old.sim.events old.givings.items) _ _ _ _ c.self.invariant.3 _ _ _ kept c.args.node
          c.in-Some.place at.row at.stands at.is,
      c.self.invariant.4,
      more_givings old.sim.events givings _ c.len-behind.ensures c.self.invariant.5,
    )

pub push_reserved-requires : goal.push_reserved-requires
push_reserved-requires c =
    let old = c.self.inside in
    omega (
      arith,
      c.requires,
      ap (λ (turned : Turned). turned.most) c.self.view_is,
      ap (λ (turned : Turned). length turned.turns) c.self.view_is,
      old.givings.ok.0,
      length-map old.givings.items (λ (giving : Giving). giving.earlier),
      c.self.invariant.3.each_given,
      few_given (woven old.sim.events old.givings.items),
      c.self.invariant.4.for_earlier,
    )

pub overflow_cast-number : goal.overflow_cast-number
overflow_cast-number c =
    let old = c.self.inside in
    omega (
      arith,
      c.requires,
      ap (λ (turned : Turned). turned.most) c.self.view_is,
      ap (λ (turned : Turned). length turned.turns) c.self.view_is,
      c.len.ensures,
      c.len-2.ensures,
      old.givings.ok.0,
      length-map old.givings.items (λ (giving : Giving). giving.earlier),
      c.self.invariant.3.each_given,
      few_given (woven old.sim.events old.givings.items),
      c.self.invariant.4.small,
      c.self.invariant.1.is_network.limits.few_nodes,
    )

pub returns-clause-holds : goal.returns-clause-holds
returns-clause-holds c = λ i row neighbour stands differs.
    held_relabel c.args.self.now.network c.args.self.now.turns c.args.node row.id neighbour

pub returns-clause-stays : goal.returns-clause-stays
returns-clause-stays c = λ i row stands differs.
    let old = c.self.inside in
    let there : slice_get old.net.now i ≡ Some row =
    ap (λ (turned : Turned). slice_get turned.network i) c.self.view_is ∙ stands in
    let elsewhere : position (λ row. c.args.node == row.id) old.net.now ≢ Some i =
    subst (λ (place : Option ℕ). place ≢ Some i)
    (sym (place_there _ _ c.args.node _ c.self.invariant.0.network c.place_of.ensures.place
    ∙ c.in-Some.is)) differs in
    not_there old.net.now c.self.invariant.1.is_network i row there c.args.node elsewhere

pub returns-clause-taken : goal.returns-clause-taken
returns-clause-taken c =
    let old = c.self.inside in
    let giving : Giving = record {
      node = c.args.node;
      behind = c.len-behind.result;
      earlier = c.get-newest.result.label;
    } in
    let grown =
    ap (λ (givings : List Giving). woven old.sim.events givings) c.push_reserved.ensures.items
    ∙ woven_giving old.sim.events old.givings.items giving c.len-behind.ensures in
    (λ i. record { network = old.net.now; most = old.most; turns = grown i })
    ∙ ap (turning (Relabel c.args.node)) c.self.view_is
