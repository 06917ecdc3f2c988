use Rattle.std.proofs.Common.{◌∙◌, ℕ, nat_lt, set, ap, arith, ◌^◌, ◌-◌}
use Rattle.pls_labels.specs.Labels.{bits_together}
use Rattle.pls_configuration.specs.declared.limits.TheConstants.{MAX_BITS}
use Rattle.pls_recheck.proofs.Relabelled.{lt_min}
use Rattle.pls_recheck.proofs.labelling.is_full.Goals as goal

pub returns : goal.returns
returns c =
    ap (λ (n : ℕ). nat_lt MAX_BITS n) c.bits_with.ensures
    ∙ lt_min MAX_BITS (bits_together (set c.args.labels.now c.args.i c.args.bits.now)) (2 ^ 64 - 1)
    (omega arith)
