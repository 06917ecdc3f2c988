use Rattle.std.proofs.Common.{◌≡◌, ◌∙◌, ℕ, ◌+◌, List, ◌++◌, length, drop, slice_get, sym, ap, subst, arith}
use Rattle.pls_configuration.specs.Configuration.{IsNetwork}
use Rattle.pls_sim.specs.Schedule.{has_heard, failing_from}
use Rattle.pls_sim.proofs.Outcomes.{they_rise}
use Rattle.pls_sim.proofs.Unheard.{all_passed, has_port, passes_heard, port_small}
use Rattle.pls_watch.specs.Versions.{is_fresh, plain_of}
use Rattle.pls_watch.specs.inner.Known.{is_heard, is_newest}
use Rattle.pls_watch.proofs.Looked.{stale_rise}
use Rattle.pls_watch.proofs.Walked.{adds_one}
use Rattle.pls_watch.proofs.watch.Watch.know.Goals.{in-Unheard+in_ok-push-in-Unheard, in-Stale+in_ok-push-in-Stale, in-Fresh}
use Rattle.pls_configuration.specs.declared.row.NodeRow.{NodeRow}
use Rattle.pls_graph.proofs.Finds.{item_at}
use Rattle.pls_sim.proofs.Refusing.{ports_at}
use Rattle.pls_watch.specs.Labelled.{turns_of}
use Rattle.pls_watch.specs.Versions.{newest}
use Rattle.pls_watch.specs.inner.Numbers.{IsLabel}
use Rattle.pls_watch.proofs.Stocked.{few_seen, is_label_seen, network_seen, newest_seen, stands_seen, valid_seen}
use Rattle.pls_watch.proofs.Table.{known_own, table_set}
use Rattle.pls_watch.proofs.watch.Watch.know.Goals as goal

pub returns-clause-table : goal.returns-clause-table
returns-clause-table c =
    let old = c.self.inside in
    let now = c.args.self.now in
    let row = item_at now.network c.args.i c.requires.place in
    table_set now c.loop-port.table.items c.args.i c.newest.result.label row.0.id c.newest.result.version
    c.loop-port.invariant.table (few_seen old.versions old.labels old.most_relabels old.most_bits old.net.now
    old.relabels old.relabel_bits c.self.invariant now c.self.view_is)
    (is_label_seen old.versions old.labels old.most_relabels old.most_bits old.net.now old.relabels
    old.relabel_bits c.self.invariant now c.self.view_is row.0.id c.newest.result.version
    c.newest.result.label
    (c.newest.ensures.label row.0
    (stands_seen old.versions old.labels old.most_relabels old.most_bits old.net.now old.relabels old.relabel_bits
    c.self.invariant now c.self.view_is c.args.i row.0 row.1)))

pub returns-clause-known : goal.returns-clause-known
returns-clause-known c = λ row stands.
    let old = c.self.inside in
    let now = c.args.self.now in
    let here = stands_seen old.versions old.labels old.most_relabels old.most_bits old.net.now old.relabels
    old.relabel_bits c.self.invariant now c.self.view_is c.args.i row stands in
    let version : c.newest.result.version ≡ newest (turns_of now.events) row.id =
    c.newest.ensures.version row here ∙ newest_seen old.versions old.labels old.most_relabels old.most_bits
    old.net.now old.relabels old.relabel_bits c.self.invariant now c.self.view_is row.id in
    let label : IsLabel now.network (turns_of now.events) row.id (newest (turns_of now.events)
    row.id)
    c.newest.result.label =
    subst (λ (version : ℕ). IsLabel now.network (turns_of now.events) row.id version
    c.newest.result.label) version
    (is_label_seen old.versions old.labels old.most_relabels old.most_bits old.net.now old.relabels
    old.relabel_bits c.self.invariant now c.self.view_is row.id c.newest.result.version
    c.newest.result.label
    (c.newest.ensures.label row here)) in
    let ports = ports_at old.net.now c.args.i row c.ports-port-end.result.now
    (ap (λ (rows : List NodeRow). slice_get rows c.args.i)
    (network_seen old.versions old.labels old.most_relabels old.most_bits old.net.now old.relabels
    old.relabel_bits c.self.invariant now c.self.view_is) ∙ stands) c.ports-port-end.ensures in
    let both = known_own now.network (valid_seen old.versions old.labels old.most_relabels old.most_bits
    old.net.now old.relabels old.relabel_bits c.self.invariant now c.self.view_is)
    (turns_of now.events) c.args.i row stands c.loop-port.table.items c.loop-port.invariant.table.long
    c.newest.result.label label
    (λ p at version under. c.loop-port.invariant.known row stands p at version
    (omega (arith, under, c.loop-port-test.false, ap length ports))) in
    record { own = both.0; others = both.1 }

pub overflow_cast-port : goal.overflow_cast-port
overflow_cast-port c =
    let old = c.self.inside in
    let now = c.args.self.now in
    let small = port_small old.net.now now.network
    (network_seen old.versions old.labels old.most_relabels old.most_bits old.net.now old.relabels
    old.relabel_bits c.self.invariant now c.self.view_is) c.args.i c.loop-port.port
    c.ports-port-end.result.now c.ports-port-end.ensures c.loop-port-test.true
    (subst IsNetwork c.self.invariant.network c.self.invariant.valid) in
    omega (arith, small)

pub overflow_cast-port-in-Stale : goal.overflow_cast-port-in-Stale
overflow_cast-port-in-Stale c =
    let old = c.self.inside in
    let now = c.args.self.now in
    let small = port_small old.net.now now.network
    (network_seen old.versions old.labels old.most_relabels old.most_bits old.net.now old.relabels
    old.relabel_bits c.self.invariant now c.self.view_is) c.args.i c.loop-port.port
    c.ports-port-end.result.now c.ports-port-end.ensures c.loop-port-test.true
    (subst IsNetwork c.self.invariant.network c.self.invariant.valid) in
    omega (arith, small)

pub loop-port-preserved : goal.loop-port-preserved
loop-port-preserved c =
    let old = c.self.inside in
    let now = c.args.self.now in
    let p : ℕ = c.loop-port.port in
    let network = network_seen old.versions old.labels old.most_relabels old.most_bits old.net.now old.relabels
    old.relabel_bits c.self.invariant now c.self.view_is in
    record {
      table = c.know_port.ensures.table;
      known = c.know_port.ensures.known;
      unheard = λ row stands.
          let heard = has_heard now.network (plain_of (turns_of now.events)) row.id in
          let port = has_port old.net.now now.network network c.args.i p
          c.ports-port-end.result.now c.ports-port-end.ensures c.loop-port-test.true row stands in
          let numbers : List ℕ = c.loop-port.unheard.items in
          let later : List ℕ = failing_from heard (p + 1) (drop (p + 1) row.ports) in
          let before = c.loop-port.invariant.unheard row stands in
          let is = (c.know_port.ensures.state row port.0 stands port.1).heard in
          elim c.match-know_port.branch [
            | in-Unheard+in_ok-push-in-Unheard w ↦
                adds_one heard row.ports numbers p port.0 port.1 before
                (is ∙ ap is_heard w.in-Unheard.is)
                ∙ ap (λ (numbers : List ℕ). numbers ++ later)
                (sym (ap (λ list. list.items) w.unheard-is ∙ w.in_ok-push-in-Unheard.ensures.ok))
            | in-Stale+in_ok-push-in-Stale w ↦
                passes_heard heard row.ports numbers p port.0 port.1 before
                (is ∙ ap is_heard w.in-Stale.is)
                ∙ ap (λ (numbers : List ℕ). numbers ++ later)
                (sym (ap (λ list. list.items) w.unheard-is))
            | in-Fresh w ↦
                passes_heard heard row.ports numbers p port.0 port.1 before
                (is ∙ ap is_heard w.in-Fresh.is)
                ∙ ap (λ (numbers : List ℕ). numbers ++ later)
                (sym (ap (λ list. list.items) w.unheard-is))
          ];
      stale = λ row stands.
          let fresh = is_fresh now.network (turns_of now.events) row.id in
          let port = has_port old.net.now now.network network c.args.i p
          c.ports-port-end.result.now c.ports-port-end.ensures c.loop-port-test.true row stands in
          let numbers : List ℕ = c.loop-port.stale.items in
          let later : List ℕ = failing_from fresh (p + 1) (drop (p + 1) row.ports) in
          let before = c.loop-port.invariant.stale row stands in
          let is = (c.know_port.ensures.state row port.0 stands port.1).fresh in
          elim c.match-know_port.branch [
            | in-Unheard+in_ok-push-in-Unheard w ↦
                passes_heard fresh row.ports numbers p port.0 port.1 before
                (is ∙ ap is_newest w.in-Unheard.is)
                ∙ ap (λ (numbers : List ℕ). numbers ++ later)
                (sym (ap (λ list. list.items) w.stale-is))
            | in-Stale+in_ok-push-in-Stale w ↦
                adds_one fresh row.ports numbers p port.0 port.1 before
                (is ∙ ap is_newest w.in-Stale.is)
                ∙ ap (λ (numbers : List ℕ). numbers ++ later)
                (sym (ap (λ list. list.items) w.stale-is ∙ w.in_ok-push-in-Stale.ensures.ok))
            | in-Fresh w ↦
                passes_heard fresh row.ports numbers p port.0 port.1 before
                (is ∙ ap is_newest w.in-Fresh.is)
                ∙ ap (λ (numbers : List ℕ). numbers ++ later)
                (sym (ap (λ list. list.items) w.stale-is))
          ];
    }

pub from_buffer-requires : goal.from_buffer-requires
from_buffer-requires c =
    let old = c.self.inside in
    let now = c.args.self.now in
    let row = item_at now.network c.args.i c.requires.place in
    let ports = ports_at old.net.now c.args.i row.0 c.ports-port-end.result.now
    (ap (λ (rows : List NodeRow). slice_get rows c.args.i)
    (network_seen old.versions old.labels old.most_relabels old.most_bits old.net.now old.relabels
    old.relabel_bits c.self.invariant now c.self.view_is) ∙ row.1) c.ports-port-end.ensures in
    they_rise now.network (plain_of (turns_of now.events)) row.0 c.loop-port.unheard.items
    (sym (all_passed (has_heard now.network (plain_of (turns_of now.events)) row.0.id) row.0.ports
    c.loop-port.unheard.items c.loop-port.port
    (omega (arith, c.loop-port-test.false, ap length ports))
    (c.loop-port.invariant.unheard row.0 row.1)))

pub from_buffer-requires-2 : goal.from_buffer-requires-2
from_buffer-requires-2 c =
    let old = c.self.inside in
    let now = c.args.self.now in
    let row = item_at now.network c.args.i c.requires.place in
    let ports = ports_at old.net.now c.args.i row.0 c.ports-port-end.result.now
    (ap (λ (rows : List NodeRow). slice_get rows c.args.i)
    (network_seen old.versions old.labels old.most_relabels old.most_bits old.net.now old.relabels
    old.relabel_bits c.self.invariant now c.self.view_is) ∙ row.1) c.ports-port-end.ensures in
    stale_rise now.network (turns_of now.events) row.0 c.loop-port.stale.items
    (sym (all_passed (is_fresh now.network (turns_of now.events) row.0.id) row.0.ports
    c.loop-port.stale.items c.loop-port.port
    (omega (arith, c.loop-port-test.false, ap length ports))
    (c.loop-port.invariant.stale row.0 row.1)))
