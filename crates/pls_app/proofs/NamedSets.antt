-- What `judge` proves of a network by a rule set that has the name of a scheme.
use Rattle.std.proofs.Common.{◌≡◌, ◌∙◌, ℕ, ◌<◌, Bool, true, List, get_or, length, slice_get, Option, Some, None, inl, inr, ap, refl, subst, sym, arith}
use Rattle.std.proofs.lemmas.List.{get_or-map, length-map}
use Rattle.std.proofs.lemmas.List.Elements.{All-map}
use Rattle.std.proofs.lemmas.Option.{slice_get-get_or}
use Rattle.pls_configuration.specs.declared.row.NodeRow.{NodeRow}
use Rattle.pls_configuration.specs.declared.status.Status.TheVariants.{Done}
use Rattle.pls_configuration.specs.declared.verdict.Verdict.TheVariants.{Accept}
use Rattle.pls_configuration.specs.Configuration.{IsNetwork}
use Rattle.pls_graph.proofs.Placed.{pointer_within}
use Rattle.pls_labels.specs.Seen.{Seen, label_of, seen, seen_port, views}
use Rattle.pls_scheme.specs.Judging.{AllAccept}
use Rattle.pls_bits.specs.Gamma.{gamma_takes}
use Rattle.pls_bits.specs.declared.code_name.CodeName.TheVariants.{Gamma}
use Rattle.pls_names.specs.declared.scheme_name.SchemeName.{SchemeName}
use Rattle.pls_expressions.specs.Expression.{Of}
use Rattle.pls_rules.specs.RuleSet.{Rules}
use Rattle.pls_compile.specs.RuleMeaning.{meaning}
use Rattle.pls_builtin.specs.Builtin.{set_of_name}
use Rattle.pls_builtin.proofs.Agreeing.{PointsWithin}
use Rattle.pls_builtin.proofs.NamedAgrees.{named_agrees}
use Rattle.pls_inputs.specs.Parts.{Input, labels_in, parts_with_rules, rows_in}
use Rattle.pls_inputs.proofs.Facts.{each, readable}
use Rattle.pls_app.specs.declared.command.Command.TheVariants.{ByRules}
use Rattle.pls_app.specs.declared.command.ReportForm.{ReportForm}
use Rattle.pls_app.specs.declared.command.RuleTask.TheVariants.{Judge}
use Rattle.pls_app.specs.Meant.{judge_in}
use Rattle.pls_app.specs.Answer.{Answers, outcomes_in}
use Rattle.pls_report.specs.Report.{all_accept}
use Rattle.pls_app.specs.Ruled.{set_in}
use Rattle.pls_app.specs.Run.{ProvesByRules}
use Rattle.pls_app.specs.Said.{Answer}
use Rattle.pls_app.proofs.Proved.{accepted_holds, round_accepts, done_all, refused_not_done}

-- a pointer that is the number of a port, if there is one
points_within : (up : Option ℕ) (degree : ℕ) → ((port : ℕ) → up ≡ Some port → port < degree)
    → PointsWithin up degree
points_within None degree within = tt
points_within (Some port) degree within = within port refl

-- where all nodes accept by the set of a name, they do by the scheme of the name
named_accept : (name : SchemeName) (set : Rules) (rows : List NodeRow) (labels : List (List Bool))
    → IsNetwork rows → set_of_name name ≡ Some set
    → AllAccept (meaning gamma_takes set) rows labels
    → AllAccept (judge_in Gamma (Of name)) rows labels
named_accept name set rows labels network named all =
    let view : NodeRow → Seen = seen (label_of rows labels) in
    All-map (λ (view : Seen). judge_in Gamma (Of name) view ≡ Accept) view rows (λ k d within.
    let row : NodeRow = get_or rows k d in
    let found : slice_get rows k ≡ Some row = slice_get-get_or rows k d within in
    let many : length (view row).ports ≡ length row.ports =
    length-map row.ports (seen_port (label_of rows labels)) in
    let points : PointsWithin (view row).state.up (length (view row).ports) =
    points_within row.state.up (length (view row).ports) (λ port up.
    omega (arith, pointer_within rows network k row found port up, many)) in
    let one : get_or (views rows labels) k (view d) ≡ view row = get_or-map view rows k d (view d) within in
    let accepts : meaning gamma_takes set (view row) ≡ Accept =
    subst (λ (view : Seen). meaning gamma_takes set view ≡ Accept) one
    (all k (view d) (omega (arith, within, length-map rows view))) in
    sym (named_agrees name (view row) points set named gamma_takes) ∙ accepts)

-- a `judge` that ends in `Done`
pub done_judges : (form : ReportForm) (bytes : List ℕ) (answer : Answer)
    → Answers (ByRules (Judge form)) bytes answer → answer.status ≡ Done → ProvesByRules bytes
done_judges form bytes answer answers done = elim answers [
  | inl refused ↦
      absurd (refused_not_done refused.0
      (sym (ap (λ (answer : Answer). answer.status) refused.2) ∙ done))
  | inr works ↦
      let input : Input = works.input in
      let rows : List NodeRow = rows_in input in
      let all : all_accept (outcomes_in (ByRules (Judge form)) input) ≡ true =
      done_all (all_accept (outcomes_in (ByRules (Judge form)) input))
      (sym (ap (λ (answer : Answer). answer.status) works.yields) ∙ done) in
      let accepted : AllAccept (meaning gamma_takes (set_in input)) rows (labels_in input) =
      round_accepts (meaning gamma_takes (set_in input)) rows (labels_in input) all in
      let known = readable parts_with_rules bytes input works.is refl in
      record {
        input = input;
        is = works.is;
        holds = λ name named.
            accepted_holds Gamma (Of name) rows (labels_in input) known.network
            (each parts_with_rules bytes input works.is refl)
            (named_accept name (set_in input) rows (labels_in input) known.network named accepted);
      }
]
