use Rattle.std.proofs.Common.{◌≡◌, ◌+◌, take}
use Rattle.pls_configuration.specs.declared.limits.TheConstants.{MAX_PORTS}
use Rattle.pls_universal.specs.inner.Stating.{ports_stated}
use Rattle.pls_universal.proofs.building.have_few_ports.Given as goal

-- what is left, and the ports so far
abbrev pub invariant-loop-row : goal.invariant-loop-row
invariant-loop-row l = l.left + ports_stated (take l.row-index l.rows) ≡ MAX_PORTS
