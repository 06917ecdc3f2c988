use Rattle.std.proofs.Common.{◌≡◌, ◌∙◌, ap, map, sym}
use Rattle.pls_labels.specs.Seen.{Seen}
use Rattle.pls_compile.proofs.ShownPorts.{shows, weights_small}
use Rattle.pls_compile.proofs.in_view.view_fits.Goals as goal

pub returns-clause-weights : goal.returns-clause-weights
returns-clause-weights c =
    let are : c.args.view.now.ports ≡ map shows c.as_slice.result.now =
    ap (λ (v : Seen). v.ports) (sym c.view.view_is) ∙ ap (map shows) (sym c.as_slice.ensures) in
    weights_small c.as_slice.result.now c.args.view.now.ports are c.weights_fit.ensures
