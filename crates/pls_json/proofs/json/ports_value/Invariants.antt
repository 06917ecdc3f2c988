use Rattle.std.proofs.Common.{◌≡◌, map, take}
use Rattle.serde_json.specs.View.{view}
use Rattle.pls_json.specs.inner.Values.{number_data}
use Rattle.pls_json.proofs.json.ports_value.Given as goal

abbrev pub invariant-loop-port : goal.invariant-loop-port
invariant-loop-port l = map view l.values.items ≡ map number_data (take l.port-index l.ports)
