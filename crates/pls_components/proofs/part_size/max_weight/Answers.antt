use Rattle.std.proofs.Common.{◌≡◌, ◌∙◌, fold, max, rules}
use Rattle.pls_configuration.specs.declared.row.Port.{Port}
use Rattle.pls_components.proofs.Bounds.{fold_greatest}
use Rattle.pls_components.proofs.part_size.max_weight.Goals as goal

pub returns : goal.returns
returns c =
    let greatest : c.fold.result ≡ fold (λ most port. max most (port.weight)) 0 c.args.ports.now =
    search rules in
    greatest ∙ fold_greatest (λ (port : Port). port.weight) c.args.ports.now
