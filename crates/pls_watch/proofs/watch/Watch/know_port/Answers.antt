use Rattle.std.proofs.Common.{◌≡◌, ◌∙◌, ◌==◌, ℕ, ◌+◌, true, List, length, Option, is_some, option_map, get_or, set, slice_get, sym, ap, subst, arith}
use Rattle.std.specs.Option.{option_map_or}
use Rattle.std.proofs.lemmas.Option.{same_Some, slice_get_within}
use Rattle.pls_configuration.specs.declared.row.NodeRow.{NodeRow}
use Rattle.pls_graph.specs.Places.{beside}
use Rattle.pls_sim.proofs.Ends.{beside_length}
use Rattle.pls_watch.specs.declared.label_version.LabelVersion.{LabelVersion}
use Rattle.pls_watch.specs.Labelled.{turns_of}
use Rattle.pls_watch.specs.inner.Known.{AreKnown}
use Rattle.pls_watch.proofs.Arrived.{port_there}
use Rattle.pls_watch.specs.Versions.{newest}
use Rattle.pls_watch.proofs.More.{heard_held}
use Rattle.pls_watch.proofs.Stocked.{few_seen, held_seen, is_label_seen, network_seen, newest_seen, stands_seen, valid_seen}
use Rattle.pls_watch.proofs.Table.{known_none, known_one, table_set}
use Rattle.pls_watch.proofs.watch.Watch.know_port.Goals as goal

pub returns-in_default-clause-known : goal.returns-in_default-clause-known
returns-in_default-clause-known c = λ row stands.
    let old = c.self.inside in
    let now = c.args.self.now in
    let there = port_there now.network c.args.i c.args.port c.requires.place c.requires.port in
    let same : there.0 ≡ row = same_Some there.0 row (sym there.2 ∙ stands) in
    let has = ap (λ (row : NodeRow). slice_get row.ports c.args.port) (sym same) ∙ there.3 in
    let here = stands_seen old.versions old.labels old.most_relabels old.most_bits old.net.now old.relabels
    old.relabel_bits c.self.invariant now c.self.view_is c.args.i row stands in
    let none = sym (held_seen old.versions old.labels old.most_relabels old.most_bits old.net.now old.relabels
    old.relabel_bits c.self.invariant now c.self.view_is row.id there.1.nbr)
    ∙ sym (c.held_version.ensures.version row there.1 here has)
    ∙ ap (option_map (λ (label : LabelVersion). label.version)) c.in_default.is in
    known_none now.network (valid_seen old.versions old.labels old.most_relabels old.most_bits old.net.now
    old.relabels old.relabel_bits c.self.invariant now c.self.view_is) (turns_of now.events)
    c.args.i row stands c.args.table.now.items c.requires.table.long c.args.port there.1 has
    (c.requires.known row stands) none

pub bounds-places-port : goal.bounds-places-port
bounds-places-port c =
    let old = c.self.inside in
    let now = c.args.self.now in
    let there = port_there now.network c.args.i c.args.port c.requires.place c.requires.port in
    let network = network_seen old.versions old.labels old.most_relabels old.most_bits old.net.now old.relabels
    old.relabel_bits c.self.invariant now c.self.view_is in
    omega (
      arith,
      slice_get_within there.0.ports c.args.port there.1 there.3,
      beside_length now.network (valid_seen old.versions old.labels old.most_relabels old.most_bits
          old.net.now old.relabels old.relabel_bits c.self.invariant now c.self.view_is) c.args.i
          there.0 there.2,
      ap length c.places.ensures.places,
      ap (λ (rows : List NodeRow). length (beside rows c.args.i)) network,
    )

pub returns-clause-table : goal.returns-clause-table
returns-clause-table c =
    let old = c.self.inside in
    let now = c.args.self.now in
    let there = port_there now.network c.args.i c.args.port c.requires.place c.requires.port in
    let here = stands_seen old.versions old.labels old.most_relabels old.most_bits old.net.now old.relabels
    old.relabel_bits c.self.invariant now c.self.view_is c.args.i there.0 there.2 in
    table_set now c.args.table.now.items (get_or c.places.result.now c.args.port 0) c.in-Some.held.label
    there.1.nbr c.in-Some.held.version c.requires.table
    (few_seen old.versions old.labels old.most_relabels old.most_bits old.net.now old.relabels old.relabel_bits
    c.self.invariant now c.self.view_is)
    (is_label_seen old.versions old.labels old.most_relabels old.most_bits old.net.now old.relabels
    old.relabel_bits c.self.invariant now c.self.view_is there.1.nbr c.in-Some.held.version
    c.in-Some.held.label
    (c.in-Some.ensures.label there.0 there.1 here there.3))

pub returns-clause-known : goal.returns-clause-known
returns-clause-known c = λ row stands.
    let old = c.self.inside in
    let now = c.args.self.now in
    let there = port_there now.network c.args.i c.args.port c.requires.place c.requires.port in
    let same : there.0 ≡ row = same_Some there.0 row (sym there.2 ∙ stands) in
    let has = ap (λ (row : NodeRow). slice_get row.ports c.args.port) (sym same) ∙ there.3 in
    let here = stands_seen old.versions old.labels old.most_relabels old.most_bits old.net.now old.relabels
    old.relabel_bits c.self.invariant now c.self.view_is c.args.i row stands in
    let held_is = sym (held_seen old.versions old.labels old.most_relabels old.most_bits old.net.now
    old.relabels old.relabel_bits c.self.invariant now c.self.view_is row.id there.1.nbr)
    ∙ sym (c.held_version.ensures.version row there.1 here has)
    ∙ ap (option_map (λ (label : LabelVersion). label.version)) c.in-Some.is in
    let place : get_or (beside now.network c.args.i) c.args.port 0 ≡ get_or c.places.result.now
    c.args.port 0 =
    ap (λ (places : List ℕ). get_or places c.args.port 0)
    (ap (λ (rows : List NodeRow). beside rows c.args.i)
    (sym (network_seen old.versions old.labels old.most_relabels old.most_bits old.net.now old.relabels
    old.relabel_bits c.self.invariant now c.self.view_is)) ∙ sym c.places.ensures.places) in
    subst (λ (place : ℕ). AreKnown now.network (turns_of now.events) c.args.i row (c.args.port + 1)
    (set c.args.table.now.items place c.in-Some.held.label)) place
    (known_one now.network (valid_seen old.versions old.labels old.most_relabels old.most_bits old.net.now
    old.relabels old.relabel_bits c.self.invariant now c.self.view_is) (turns_of now.events)
    c.args.i row stands c.args.table.now.items c.requires.table.long c.args.port there.1 has
    (c.requires.known row stands) c.in-Some.held.label c.in-Some.held.version held_is
    (is_label_seen old.versions old.labels old.most_relabels old.most_bits old.net.now old.relabels
    old.relabel_bits c.self.invariant now c.self.view_is there.1.nbr c.in-Some.held.version
    c.in-Some.held.label
    (c.in-Some.ensures.label row there.1 here has)))

pub returns-in_default-clause-state : goal.returns-in_default-clause-state
returns-in_default-clause-state c = λ row at stands has.
    let old = c.self.inside in
    let now = c.args.self.now in
    let turns = turns_of now.events in
    let here = stands_seen old.versions old.labels old.most_relabels old.most_bits old.net.now old.relabels
    old.relabel_bits c.self.invariant now c.self.view_is c.args.i row stands in
    let none = sym (held_seen old.versions old.labels old.most_relabels old.most_bits old.net.now old.relabels
    old.relabel_bits c.self.invariant now c.self.view_is row.id at.nbr)
    ∙ sym (c.held_version.ensures.version row at here has)
    ∙ ap (option_map (λ (label : LabelVersion). label.version)) c.in_default.is in
    record {
      heard = heard_held now.network turns row.id at.nbr ∙ ap is_some none;
      fresh =
          ap (λ (o : Option ℕ). option_map_or (λ version. version == newest turns at.nbr) o true)
          none;
    }

pub returns-clause-state : goal.returns-clause-state
returns-clause-state c = λ row at stands has.
    let old = c.self.inside in
    let now = c.args.self.now in
    let turns = turns_of now.events in
    let here = stands_seen old.versions old.labels old.most_relabels old.most_bits old.net.now old.relabels
    old.relabel_bits c.self.invariant now c.self.view_is c.args.i row stands in
    let some = sym (held_seen old.versions old.labels old.most_relabels old.most_bits old.net.now old.relabels
    old.relabel_bits c.self.invariant now c.self.view_is row.id at.nbr)
    ∙ sym (c.held_version.ensures.version row at here has)
    ∙ ap (option_map (λ (label : LabelVersion). label.version)) c.in-Some.is in
    let latest : c.newest_beside.result ≡ newest turns at.nbr =
    c.newest_beside.ensures row at here has
    ∙ newest_seen old.versions old.labels old.most_relabels old.most_bits old.net.now old.relabels
    old.relabel_bits c.self.invariant now c.self.view_is at.nbr in
    record {
      heard = heard_held now.network turns row.id at.nbr ∙ ap is_some some ∙ sym c.of.ensures.heard;
      fresh =
          ap (λ (o : Option ℕ). option_map_or (λ version. version == newest turns at.nbr) o true)
          some
          ∙ ap (λ (n : ℕ). c.in-Some.held.version == n) (sym latest)
          ∙ sym c.of.ensures.newest;
    }
