use Rattle.std.proofs.Common.{ℕ, ◌<◌, ◌^◌, get_or}
use Rattle.pls_configuration.specs.declared.row.Port.{Port}
use Rattle.pls_compile.proofs.in_network.weights_fit.Given as goal

-- the weights so far
abbrev pub invariant-loop-p : goal.invariant-loop-p
invariant-loop-p l = (k : ℕ) (none : Port) → k < l.p → (get_or l.ports k none).weight < 2 ^ 64
