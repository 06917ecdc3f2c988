use Rattle.std.proofs.Common.{◌≡◌, ◌∙◌, ℕ, List, length, map, zip, ap}
use Rattle.std.proofs.lemmas.Result.{IfOk-weaker}
use Rattle.pls_configuration.specs.declared.row.NodeRow.{NodeRow}
use Rattle.pls_configuration.specs.declared.verdict.Verdict.{Verdict}
use Rattle.pls_sim.specs.declared.outcome.Outcome.{Outcome}
use Rattle.pls_sim.specs.declared.outcome.Outcome.TheVariants.{Decided}
use Rattle.pls_labels.specs.Seen.{label_of}
use Rattle.pls_app.specs.Reports.{decided_by}
use Rattle.pls_app.proofs.Rounds.{decided_many, zip-round}
use Rattle.pls_app.proofs.verify.decide.Goals as goal

pub returns-clause-decided : goal.returns-clause-decided
returns-clause-decided g c =
    let judge = g.V.Checker.judge c.args.checker.now in
    let net = c.args.net.now in
    let labels = c.args.labels.now in
    let ids : List ℕ = map (λ (row : NodeRow). row.id) net in
    let decided : List Verdict → List (ℕ × Outcome) =
    λ verdicts. zip ids (map (λ verdict. Decided verdict) verdicts) in
    IfOk-weaker c.with_ids.result (λ rows. rows.items ≡ decided c.deref.result.now)
    (λ rows. rows.items ≡ decided_by judge net labels)
    (λ rows same. same ∙ ap decided (c.deref.ensures.value ∙ c.in_ok-verdicts.ensures.verdicts)
    ∙ zip-round judge (label_of net labels) net) c.with_ids.ensures

pub returns-clause-each : goal.returns-clause-each
returns-clause-each g c =
    let judge = g.V.Checker.judge c.args.checker.now in
    let net = c.args.net.now in
    let labels = c.args.labels.now in
    let ids : List ℕ = map (λ (row : NodeRow). row.id) net in
    let decided : List Verdict → List (ℕ × Outcome) =
    λ verdicts. zip ids (map (λ verdict. Decided verdict) verdicts) in
    IfOk-weaker c.with_ids.result (λ rows. rows.items ≡ decided c.deref.result.now)
    (λ rows. length rows.items ≡ length net)
    (λ rows same. ap length (same
    ∙ ap decided (c.deref.ensures.value ∙ c.in_ok-verdicts.ensures.verdicts)
    ∙ zip-round judge (label_of net labels) net) ∙ decided_many judge net labels)
    c.with_ids.ensures
