use Rattle.std.proofs.Common.{◌≡◌, ◌∙◌, List, length, map, not, sym, ap, take, true}
use Rattle.std.specs.Option.{is_some}
use Rattle.pls_labels.specs.Seen.{Seen}
use Rattle.pls_labels.specs.declared.view.PortView.{PortView}
use Rattle.pls_numbers.specs.declared.kind.FieldKind.{FieldKind}
use Rattle.pls_rules.specs.declared.rule_set.RuleSet.{RuleSet}
use Rattle.pls_rules.specs.HeldTrees.{set_of}
use Rattle.pls_rules.specs.RuleSet.{kinds_of}
use Rattle.pls_scheme.specs.Judging.{judged_from}
use Rattle.pls_compile.specs.ReadLabels.{sight_of}
use Rattle.pls_compile.specs.RuleMeaning.{rules_hold}
use Rattle.pls_compile.proofs.Judging.{judges, readable, rejects}
use Rattle.pls_compile.proofs.ShownPorts.{shows}
use Rattle.pls_compile.proofs.rule_checker.RuleChecker.verdict_on.Goals as goal

pub returns-then-not-are_read : goal.returns-then-not-are_read
returns-then-not-are_read c =
    let kinds : List FieldKind = c.as_slice-kinds.result.now in
    let same : kinds ≡ kinds_of (set_of c.args.self.now).fields =
    c.as_slice-kinds.ensures.value ∙ c.self.invariant.0
    ∙ ap (λ (s : RuleSet). kinds_of (set_of s).fields) c.self.view_is in
    let ports : List PortView = c.as_slice.result.now in
    let are : c.args.view.now.ports ≡ map shows ports =
    ap (λ (v : Seen). v.ports) (sym c.view.view_is) ∙ ap (map shows) (sym c.as_slice.ensures) in
    let found : is_some c.read_fields.result ≡ true = c.is_none.ensures ∙ ap not c.if-is_none.false
    in
    rejects kinds (set_of c.args.self.now) same c.args.view.now c.view.inside.own
    (ap (λ (v : Seen). v.own) c.view.view_is) c.read_fields.result (take (length kinds))
    c.read_fields.ensures found ports are c.are_read.result c.are_read.ensures
    c.if-not-are_read.true

pub run_code-requires-clause-node : goal.run_code-requires-clause-node
run_code-requires-clause-node c =
    let kinds : List FieldKind = c.as_slice-kinds.result.now in
    let same : kinds ≡ kinds_of (set_of c.self.inside.set).fields =
    c.as_slice-kinds.ensures.value ∙ c.self.invariant.0 in
    let ports : List PortView = c.as_slice.result.now in
    let are : c.args.view.now.ports ≡ map shows ports =
    ap (λ (v : Seen). v.ports) (sym c.view.view_is) ∙ ap (map shows) (sym c.as_slice.ensures) in
    let found : is_some c.read_fields.result ≡ true = c.is_none.ensures ∙ ap not c.if-is_none.false
    in
    let fits = c.view_fits.ensures in
    readable kinds (set_of c.self.inside.set) same c.args.view.now c.view.inside.own
    (ap (λ (v : Seen). v.own) c.view.view_is) c.read_fields.result (take (length kinds))
    c.read_fields.ensures found ports are c.are_read.result c.are_read.ensures
    c.if-not-are_read.false fits.id fits.mark fits.num fits.few fits.weights

pub returns : goal.returns
returns c =
    let kinds : List FieldKind = c.as_slice-kinds.result.now in
    let same : kinds ≡ kinds_of (set_of c.args.self.now).fields =
    c.as_slice-kinds.ensures.value ∙ c.self.invariant.0
    ∙ ap (λ (s : RuleSet). kinds_of (set_of s).fields) c.self.view_is in
    let ports : List PortView = c.as_slice.result.now in
    let are : c.args.view.now.ports ≡ map shows ports =
    ap (λ (v : Seen). v.ports) (sym c.view.view_is) ∙ ap (map shows) (sym c.as_slice.ensures) in
    let found : is_some c.read_fields.result ≡ true = c.is_none.ensures ∙ ap not c.if-is_none.false
    in
    judges kinds (set_of c.args.self.now) same c.args.view.now c.view.inside.own
    (ap (λ (v : Seen). v.own) c.view.view_is) c.read_fields.result (take (length kinds))
    c.read_fields.ensures found ports are c.are_read.result c.are_read.ensures
    c.if-not-are_read.false c.run_code.result
    (c.run_code.ensures ∙ ap (λ (s : RuleSet). judged_from 3 (rules_hold (set_of s).rules
    (sight_of kinds c.args.view.now))) c.self.view_is)
