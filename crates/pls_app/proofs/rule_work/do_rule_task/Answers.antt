use Rattle.std.proofs.Common.{◌≡◌, ◌∙◌, false, List, [], inr, ap, refl, subst, sym}
use Rattle.pls_configuration.specs.declared.row.NodeRow.{NodeRow}
use Rattle.pls_components.specs.Components.{AreComponents}
use Rattle.pls_components.proofs.Empty.{empty_parts}
use Rattle.pls_inputs.specs.Parts.{rows_in}
use Rattle.pls_app.specs.Command.{input_parts_of}
use Rattle.std.proofs.lemmas.Result.{IfOk-weaker}
use Rattle.pls_bits.specs.Gamma.{gamma_takes}
use Rattle.pls_compile.specs.RuleMeaning.{meaning}
use Rattle.pls_rules.specs.HeldTrees.{set_of}
use Rattle.pls_inputs.specs.Read.{said}
use Rattle.pls_app.specs.declared.command.Command.TheVariants.{ByRules}
use Rattle.pls_app.specs.declared.command.RuleTask.{RuleTask}
use Rattle.pls_app.specs.Answer.{report_answer}
use Rattle.pls_app.specs.Reports.{decided_by}
use Rattle.pls_app.specs.Ruled.{code_answer}
use Rattle.pls_app.specs.inner.Tasks.{DoesSplice, DoesWork}
use Rattle.pls_app.proofs.Spliced.{spliced_so}
use Rattle.pls_app.proofs.Values.{labels_are, labels_each, made_of, no_rows, rows_are, rules_sense, set_is}
use Rattle.pls_app.proofs.rule_work.do_rule_task.Goals as goal

pub judge-requires-clause-each : goal.judge-requires-clause-each
judge-requires-clause-each c =
    labels_each _ _ c.args.input c.requires.1 c.unwrap-net.result c.unwrap-net.ensures
    c.unwrap.result c.unwrap.ensures

pub judge-requires-clause-sense : goal.judge-requires-clause-sense
judge-requires-clause-sense c =
    rules_sense _ _ c.args.input c.requires.1 c.unwrap-set.result c.unwrap-set.ensures

pub list_code-requires : goal.list_code-requires
list_code-requires c =
    rules_sense _ _ c.args.input c.requires.1 c.unwrap-set.result c.unwrap-set.ensures

pub returns-in_ok-parts-in-Judge-clause-does : goal.returns-in_ok-parts-in-Judge-clause-does
returns-in_ok-parts-in-Judge-clause-does c =
    let input = said c.args.input in
    let form = c.in-Judge.form in
    let is = c.requires.1 in
    let net = c.unwrap-net.result in
    let store = c.unwrap.result in
    let set = set_of c.unwrap-set.result in
    let rows = rows_are c.args.input net c.unwrap-net.ensures in
    let labels = labels_are _ _ c.args.input is net c.unwrap-net.ensures store c.unwrap.ensures in
    let sets = set_is _ _ c.args.input is c.unwrap-set.result c.unwrap-set.ensures in
    let parts = c.in_ok-parts-in-Judge.parts in
    IfOk-weaker c.judge-in-Judge.result
    (λ answer. answer ≡ report_answer form false net parts (decided_by (meaning gamma_takes set) net store))
    (λ answer. DoesWork (ByRules c.args.task) input answer)
    (λ answer same. subst (λ (task : RuleTask). DoesWork (ByRules task) input answer)
    (sym c.in-Judge.is) (record {
      parts = parts;
      components = made_of input net parts rows c.in_ok-parts-in-Judge.ensures;
      does = inr (
        refl,
        same ∙ (λ i. report_answer form false (sym rows i) parts
            (decided_by (meaning gamma_takes (sym sets i)) (sym rows i) (sym labels i))),
      );
    })) c.judge-in-Judge.ensures.reports

pub splice_by_rules-requires-clause-each : goal.splice_by_rules-requires-clause-each
splice_by_rules-requires-clause-each c =
    labels_each _ _ c.args.input c.requires.1 c.unwrap-net-in-Splice.result
    c.unwrap-net-in-Splice.ensures c.unwrap-in-Splice.result c.unwrap-in-Splice.ensures

pub splice_by_rules-requires-clause-sense : goal.splice_by_rules-requires-clause-sense
splice_by_rules-requires-clause-sense c =
    rules_sense _ _ c.args.input c.requires.1 c.unwrap-set.result c.unwrap-set.ensures

pub returns-in_ok-parts-in-Splice-clause-does : goal.returns-in_ok-parts-in-Splice-clause-does
returns-in_ok-parts-in-Splice-clause-does c =
    let input = said c.args.input in
    let is = c.requires.1 in
    let net = c.unwrap-net-in-Splice.result in
    let store = c.unwrap-in-Splice.result in
    let set = set_of c.unwrap-set.result in
    let rows = rows_are c.args.input net c.unwrap-net-in-Splice.ensures in
    let labels = labels_are _ _ c.args.input is net c.unwrap-net-in-Splice.ensures store
    c.unwrap-in-Splice.ensures in
    let sets = set_is _ _ c.args.input is c.unwrap-set.result c.unwrap-set.ensures in
    let parts = c.in_ok-parts-in-Splice.parts in
    let are : AreComponents (rows_in input) parts =
    made_of input net parts rows c.in_ok-parts-in-Splice.ensures in
    IfOk-weaker c.splice_by_rules.result
    (DoesSplice (meaning gamma_takes set) c.args.input.code net store)
    (λ answer. DoesWork (ByRules c.args.task) input answer)
    (λ answer does. subst (λ (task : RuleTask). DoesWork (ByRules task) input answer)
    (sym c.in-Splice.is) (record {
      parts = parts;
      components = are;
      does = spliced_so (meaning gamma_takes set) _ c.args.input.code _ net _ store _ answer
          (ap (meaning gamma_takes) (sym sets)) is.code (sym rows) (sym labels) does parts are;
    })) c.splice_by_rules.ensures.does

pub returns-in-Code-clause-does : goal.returns-in-Code-clause-does
returns-in-Code-clause-does c =
    let input = said c.args.input in
    let is = c.requires.1 in
    let set = set_of c.unwrap-set.result in
    let sets = set_is _ _ c.args.input is c.unwrap-set.result c.unwrap-set.ensures in
    let none : rows_in input ≡ [] = no_rows _ _ input is.is
    (ap (λ (task : RuleTask). (input_parts_of (ByRules task)).network) c.in-Code.is) in
    IfOk-weaker c.list_code.result (λ answer. answer ≡ code_answer set)
    (λ answer. DoesWork (ByRules c.args.task) input answer)
    (λ answer same. subst (λ (task : RuleTask). DoesWork (ByRules task) input answer)
    (sym c.in-Code.is) (record {
      parts = [];
      components = subst (λ (rows : List NodeRow). AreComponents rows []) (sym none) empty_parts;
      does = inr (refl, same ∙ ap code_answer (sym sets));
    })) c.list_code.ensures
