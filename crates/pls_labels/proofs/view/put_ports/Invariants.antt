use Rattle.std.proofs.Common.{◌≡◌, ◌≤◌, map, take}
use Rattle.pls_labels.specs.Seen.{label_of, seen_port, shown}
use Rattle.pls_labels.proofs.view.put_ports.Given as goal

abbrev pub invariant-loop-port : goal.invariant-loop-port
invariant-loop-port g l = record {
  seen : map (λ port. shown port.weight port.label) l.ports.items
      ≡ map (seen_port (label_of l.net (g.L.Labels.listed l.labels))) (take l.port-index l.named);
  number : l.p ≡ l.port-index;
  room : l.fn.ports.capacity ≤ l.ports.capacity;
}
