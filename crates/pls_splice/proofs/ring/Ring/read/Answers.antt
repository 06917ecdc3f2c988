use Rattle.std.proofs.Common.{ℕ, Option, IfNone, IfSome, find, sym, subst}
use Rattle.pls_configuration.specs.declared.row.NodeRow.{NodeRow}
use Rattle.pls_configuration.specs.Walk.{IsConnected}
use Rattle.pls_graph.specs.Connected.{IsFirstApart}
use Rattle.pls_graph.proofs.Finds.{None-option_map}
use Rattle.pls_splice.specs.Ring.{IsOrder, IsRing, has_not_two}
use Rattle.pls_splice.proofs.ComingHome.{round_order}
use Rattle.pls_splice.proofs.NoRing.{all_two, no_walk, other_number}
use Rattle.pls_splice.proofs.ring.Ring.read.Goals as goal

pub returns-in-Some-clause-refused : goal.returns-in-Some-clause-refused
returns-in-Some-clause-refused c = other_number c.args.net.now c.in-Some.id c.in-Some.ensures

pub returns-in-Some-2-clause-refused : goal.returns-in-Some-2-clause-refused
returns-in-Some-2-clause-refused c =
    let rows = c.args.net.now in
    no_walk rows c.node_apart.ensures.valid c.in-Some-2.id
    (None-option_map (λ (row : NodeRow). row.id) (find has_not_two rows) c.in_default.ensures)
    (subst (λ (o : Option ℕ). IfSome o (IsFirstApart rows)) c.in-Some-2.is c.in_ok-id.ensures.apart)

pub go_round-requires : goal.go_round-requires
go_round-requires c =
    let rows = c.args.net.now in record {
      connected = subst (λ (o : Option ℕ). IfNone o (IsConnected rows)) c.in_default-2.is
          c.in_ok-id.ensures.connected;
      two = all_two rows
          (None-option_map (λ (row : NodeRow). row.id) (find has_not_two rows) c.in_default.ensures);
    }

pub returns-clause-ok : goal.returns-clause-ok
returns-clause-ok c =
    let rows = c.args.net.now in
    let ring : IsRing rows = record {
      connected = subst (λ (o : Option ℕ). IfNone o (IsConnected rows)) c.in_default-2.is
          c.in_ok-id.ensures.connected;
      two = all_two rows
          (None-option_map (λ (row : NodeRow). row.id) (find has_not_two rows) c.in_default.ensures);
    } in
    record {
      ring = ring;
      round = subst (IsOrder rows) (sym c.in_ok-places.ensures)
          (round_order rows c.node_apart.ensures.valid ring);
    }
