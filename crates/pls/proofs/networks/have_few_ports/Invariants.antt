use Rattle.std.proofs.Common.{◌≡◌, ◌+◌, take}
use Rattle.pls_configuration.specs.declared.limits.TheConstants.{MAX_PORTS}
use Rattle.pls_configuration.specs.Configuration.{ports_in}
use Rattle.pls.proofs.networks.have_few_ports.Given as goal

-- what is left, and the ports so far
abbrev pub invariant-loop-row : goal.invariant-loop-row
invariant-loop-row l = l.left + ports_in (take l.row-index l.rows) ≡ MAX_PORTS
