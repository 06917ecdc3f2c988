use Rattle.std.proofs.Common.{◌≡◌, ◌∙◌, List, ap, map, subst, sym, true}
use Rattle.std.specs.List.{list_all}
use Rattle.std.proofs.lemmas.List.Folds.{list_all-map}
use Rattle.pls_numbers.specs.declared.kind.FieldKind.{FieldKind}
use Rattle.pls_labels.specs.Seen.{Seen, SeenPort}
use Rattle.pls_labels.specs.declared.view.PortView.{PortView}
use Rattle.pls_compile.specs.ReadLabels.{is_read}
use Rattle.pls_compile.proofs.ShownPorts.{shows}
use Rattle.pls_rule_tests.proofs.tests.steps.verdict_and_steps_if_read.Goals as goal

pub verdict_and_steps-requires-clause-ports : goal.verdict_and_steps-requires-clause-ports
verdict_and_steps-requires-clause-ports c =
    let same : c.as_slice-then-branch.result.now ≡ c.args.format.now.kinds.items =
    c.as_slice-then-branch.ensures.value in
    let ports : List PortView = c.as_slice.result.now in
    let are : c.args.view.now.ports ≡ map shows ports =
    ap (λ (v : Seen). v.ports) (sym c.view.view_is) ∙ ap (map shows) (sym c.as_slice.ensures) in
    subst (λ (kinds : List FieldKind). list_all (λ (port : SeenPort). is_read kinds port.label)
    c.args.view.now.ports ≡ true) (sym same)
    (ap (list_all (λ (port : SeenPort). is_read c.args.format.now.kinds.items port.label)) are
    ∙ list_all-map (λ (port : SeenPort). is_read c.args.format.now.kinds.items port.label) shows
    ports ∙ sym c.in_ok-are_labels.ensures ∙ c.if-branch.true)
