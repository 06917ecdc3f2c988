use Rattle.std.proofs.Common.{◌≡◌, ◌≤◌, map, take, length}
use Rattle.pls_labels.specs.Seen.{shown}
use Rattle.pls_labels.proofs.part.narrowed_ports.Given as goal

abbrev pub invariant-loop-port : goal.invariant-loop-port
invariant-loop-port g l = record {
  seen : map (λ port. shown port.weight port.label) l.narrowed.items
      ≡ map (λ port. shown port.weight (g.N.Narrow.narrowed port.label))
      (take l.port-index l.ports);
  count : length l.narrowed.items ≡ l.port-index;
  room : 8 ≤ l.narrowed.capacity;
}
