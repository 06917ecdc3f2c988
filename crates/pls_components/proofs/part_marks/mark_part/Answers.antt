use Rattle.std.proofs.Common.{◌≡◌, ◌∙◌, ℕ, List, Some, ap, length, refl, slice_get, sym, subst, arith}
use Rattle.std.proofs.lemmas.Option.{same_Some}
use Rattle.pls_configuration.specs.declared.row.NodeRow.{NodeRow}
use Rattle.pls_configuration.specs.Walk.{IsConnected}
use Rattle.pls_graph.proofs.Members.{Contains-from_place}
use Rattle.pls_components.specs.Components.{IsComponent, items_at}
use Rattle.pls_components.specs.inner.Marking.{ArePutAt, IsShownBy}
use Rattle.pls_components.proofs.Items.{length-items}
use Rattle.pls_components.proofs.Part.{part_connected, part_network, places_within}
use Rattle.pls_components.proofs.PartPlaces.{part_is, part_places}
use Rattle.pls_components.proofs.part_marks.mark_part.Goals as goal

pub mark-requires : goal.mark-requires
mark-requires g c =
    let net = c.args.net.now in
    let parts = c.args.parts.now in
    let (places, there, same) : (places : List ℕ) × (slice_get parts c.args.k ≡ Some places)
    × (items_at net places ≡ c.in_ok-part.part) =
    part_places net parts c.args.k c.in_ok-part.part c.in_ok-part.ensures in
    subst IsConnected same (part_connected net c.is_valid.ensures places
    (c.requires.made.each places (Contains-from_place parts c.args.k places there)))

pub put_labels-requires-clause-rising : goal.put_labels-requires-clause-rising
put_labels-requires-clause-rising g c =
    (c.requires.made.each c.members.result.now
    (Contains-from_place c.args.parts.now c.args.k c.members.result.now c.members.ensures)).rising

pub put_labels-requires-clause-within : goal.put_labels-requires-clause-within
put_labels-requires-clause-within g c =
    let is : IsComponent c.args.net.now c.members.result.now =
    c.requires.made.each c.members.result.now
    (Contains-from_place c.args.parts.now c.args.k c.members.result.now c.members.ensures) in
    λ j d inside.
    omega (
      arith,
      places_within c.args.net.now c.is_valid.ensures c.members.result.now is j d inside,
      c.requires.each,
    )

pub put_labels-requires-clause-few : goal.put_labels-requires-clause-few
put_labels-requires-clause-few g c =
    let net = c.args.net.now in
    let places = c.members.result.now in
    let is : IsComponent net places =
    c.requires.made.each places
    (Contains-from_place c.args.parts.now c.args.k places c.members.ensures) in
    let each = length-items net places (places_within net c.is_valid.ensures places is) in
    let few = (part_network net c.is_valid.ensures places is).limits.few_nodes in
    omega (arith, each, few)

pub put_labels-requires-clause-each : goal.put_labels-requires-clause-each
put_labels-requires-clause-each g c =
    let net = c.args.net.now in
    let parts = c.args.parts.now in
    let places = c.members.result.now in
    let is : IsComponent net places =
    c.requires.made.each places (Contains-from_place parts c.args.k places c.members.ensures) in
    let same : items_at net places ≡ c.in_ok-part.part =
    part_is net parts c.args.k c.in_ok-part.part places c.members.ensures c.in_ok-part.ensures in
    let each : length c.in-Some.marked ≡ length c.in_ok-part.part =
    rw c.in-Some.is at c.in_ok-marked.ensures.each in
    each ∙ sym (ap (length {A = NodeRow}) same)
    ∙ length-items net places (places_within net c.is_valid.ensures places is)

pub returns-in-Some : goal.returns-in-Some
returns-in-Some g c = record {
  put = λ places there.
      let net = c.args.net.now in
      let parts = c.args.parts.now in
      let scheme = c.args.scheme.now in
      let same : items_at net places ≡ c.in_ok-part.part =
      part_is net parts c.args.k c.in_ok-part.part places there c.in_ok-part.ensures in
      let here : c.members.result.now ≡ places =
      same_Some c.members.result.now places (sym c.members.ensures ∙ there) in
      let put : ArePutAt places c.in-Some.marked c.args.labels.now c.put_labels.new.labels =
      subst (λ (places : List ℕ). ArePutAt places c.in-Some.marked c.args.labels.now
      c.put_labels.new.labels) here c.in_ok-put_labels-in-Some.ensures in
      let shown : IsShownBy (g.S.Property.holds scheme) (g.S.Scheme.marked scheme)
      (g.S.Checker.judge scheme) (g.S.Scheme.longest scheme) c.in_ok-part.part c.in-Some.marked =
      record {
        has = rw c.in-Some.is at c.in_ok-marked.ensures.holds;
        right = rw c.in-Some.is at c.in_ok-marked.ensures.marked;
        each = rw c.in-Some.is at c.in_ok-marked.ensures.each;
        accepted = rw c.in-Some.is at c.in_ok-marked.ensures.accepted;
        short = rw c.in-Some.is at c.in_ok-marked.ensures.short;
      } in (
        c.in-Some.marked,
        put,
        subst (λ (rows : List NodeRow). IsShownBy (g.S.Property.holds scheme)
            (g.S.Scheme.marked scheme) (g.S.Checker.judge scheme) (g.S.Scheme.longest scheme) rows
            c.in-Some.marked) (sym same) shown,
      );
}

pub returns : goal.returns
returns g c = record {
  put = λ places there.
      let same : items_at c.args.net.now places ≡ c.in_ok-part.part =
      part_is c.args.net.now c.args.parts.now c.args.k c.in_ok-part.part places there
      c.in_ok-part.ensures in
      let lacks : g.S.Property.holds c.args.scheme.now c.in_ok-part.part → ⊥ =
      rw c.in-None.is at c.in_ok-marked.ensures.lacking in
      (refl, λ has. lacks (subst (g.S.Property.holds c.args.scheme.now) same has));
}
