-- `verify` is `Done` on labels that `mark` wrote.
use Rattle.std.proofs.Common.{◌≡◌, ◌∙◌, ℕ, ◌==◌, Bool, true, false, if◌then◌else◌, List, [], ◌∷◌, ◌++◌, codes, Option, Some, None, option_and_then, inr, ap, refl, subst, sym}
use Rattle.std.specs.List.{list_any}
use Rattle.std.proofs.lemmas.List.{length-map}
use Rattle.std.proofs.lemmas.List.Folds.{list_all-map}
use Rattle.std.proofs.lemmas.List.Sums.{list_all-from_AllPass}
use Rattle.pls_words.specs.Words.{Said, flag_cut, said_beside, said_by_words, said_with}
use Rattle.pls_words.specs.declared.command_words.Flag.TheVariants.{Bare}
use Rattle.pls_configuration.specs.declared.row.NodeRow.{NodeRow}
use Rattle.pls_configuration.specs.declared.status.Status.TheVariants.{Done, No}
use Rattle.pls_configuration.specs.declared.verdict.Verdict.{Verdict}
use Rattle.pls_configuration.specs.Configuration.{ids_of}
use Rattle.pls_labels.specs.Seen.{Seen, views}
use Rattle.pls_labelfile.proofs.Named.{bare-named}
use Rattle.pls_scheme.specs.Judging.{AllAccept}
use Rattle.pls_sim.specs.declared.outcome.Outcome.{Outcome}
use Rattle.pls_sim.specs.declared.outcome.Outcome.TheVariants.{Decided}
use Rattle.pls_report.specs.Report.{all_accept, is_accepting}
use Rattle.pls_expressions.specs.Expression.{Expression, IsSmall}
use Rattle.pls_scheme_text.specs.ExpressionText.{expression_text}
use Rattle.pls_scheme_text.proofs.Letters.{first_letter}
use Rattle.pls_components.specs.Components.{AreComponents}
use Rattle.pls_inputs.specs.Order.{IsInput}
use Rattle.pls_inputs.specs.Parts.{Input, code_in, labels_in, parts_with_labels, rows_in}
use Rattle.pls_inputs.proofs.Facts.{IsReadable}
use Rattle.pls_bits.specs.declared.code_name.CodeName.{CodeName}
use Rattle.pls_app.specs.declared.command.Command.TheVariants.{With}
use Rattle.pls_app.specs.declared.command.ReportForm.TheVariants.{Lines}
use Rattle.pls_app.specs.declared.command.Task.TheVariants.{Verify}
use Rattle.pls_app.specs.Command.{IsCommand}
use Rattle.pls_app.specs.Meant.{judge_in}
use Rattle.pls_app.specs.Reports.{decided_by}
use Rattle.pls_app.specs.Said.{Answer}
use Rattle.pls_app.specs.Answer.{reports_on}
use Rattle.pls_app.specs.Run.{Certifies}
use Rattle.pls_app.specs.Verified.{IsDone, labelled, verify_words}
use Rattle.pls_app.proofs.Answered.{command_answer}
use Rattle.pls_app.proofs.Certified.{labelled_input}

-- a word that does not begin with `-` stands behind `verify`
behind_verify : (first : ℕ) (rest : List ℕ) → (first == 45) ≡ false
    → said_by_words (codes "verify" ∷ (first ∷ rest) ∷ [])
    ≡ Some (record { command = codes "verify"; argument = Some (first ∷ rest); flag = Bare })
behind_verify first rest plain =
    let words : List (List ℕ) = codes "verify" ∷ (first ∷ rest) ∷ [] in
    let cut : flag_cut words ≡ Some (Bare, words) = rw plain refl in
    let said : Option Said = said_with Bare words in
    ap (option_and_then said_beside) cut
    ∙ ap (λ (dashed : Bool). if list_any (λ b. b) (false ∷ dashed ∷ []) then None else said) plain

-- the words of a scheme's `verify` are that command
verify_is : (scheme : Expression) → IsSmall scheme
    → IsCommand (verify_words scheme) (With (Verify Lines) scheme)
verify_is scheme small =
    let text : List ℕ = expression_text scheme in
    let letter = first_letter scheme in record {
      said = record { command = codes "verify"; argument = Some text; flag = Bare };
      says = subst (λ (text : List ℕ). said_by_words (codes "verify" ∷ text ∷ [])
          ≡ Some (record { command = codes "verify"; argument = Some text; flag = Bare }))
          (sym letter.2) (behind_verify letter.0 letter.1 letter.3);
      is = (refl, refl, small);
    }

-- where all nodes accept, so do all outcomes
pub accepted_all : (judge : Seen → Verdict) (rows : List NodeRow) (labels : List (List Bool))
    → AllAccept judge rows labels → all_accept (decided_by judge rows labels) ≡ true
accepted_all judge rows labels accepted =
    let row : Seen → ℕ × Outcome = λ view. (view.id, Decided (judge view)) in
    list_all-map (λ row. is_accepting row.1) row (views rows labels)
    ∙ list_all-from_AllPass (λ view. is_accepting (row view).1) (views rows labels)
    (λ k d within. ap (λ (verdict : Verdict). is_accepting (Decided verdict)) (accepted k d within))

-- `verify` on bytes that are an input whose nodes all accept its labels
pub verified_input : (scheme : Expression) (bytes : List ℕ) (input : Input) (parts : List (List ℕ))
    → IsSmall scheme → IsInput parts_with_labels bytes input → AreComponents (rows_in input) parts
    → all_accept (decided_by (judge_in (code_in input) scheme) (rows_in input) (labels_in input))
    ≡ true → IsDone (verify_words scheme) bytes
verified_input scheme bytes input parts small is are all =
    let command = With (Verify Lines) scheme in
    let answer : Answer = reports_on command Lines false input parts in
    record {
      answer = answer;
      is = command_answer (verify_words scheme) bytes command answer (verify_is scheme small)
          (inr (record {
            input = input;
            is = is;
            parts = parts;
            takes = record { components = are; accepted = refl };
            yields = refl;
          }));
      done = ap (λ (all : Bool). if all then Done else No) all;
    }

module _ (code : CodeName) (scheme : Expression) (bytes text : List ℕ)
    (certifies : Certifies code scheme bytes text) where
  -- bytes followed by labels that certify their network are both
  pub read_back : IsInput parts_with_labels (bytes ++ text)
      (labelled code certifies.rows certifies.labels)
  read_back =
      let rows : List NodeRow = certifies.rows in
      let labels : List (List Bool) = certifies.labels in
      let known : IsReadable rows =
      record { network = certifies.is.network; ranges = certifies.is.ranges } in
      subst (λ (bytes : List ℕ). IsInput parts_with_labels bytes (labelled code rows labels))
      (λ i. sym certifies.is.is i ++ sym certifies.text_is i)
      (labelled_input code rows labels known certifies.shows.each certifies.few)

  -- and `verify` ends with `Done` on them
  pub verified : IsSmall scheme → IsDone (verify_words scheme) (bytes ++ text)
  verified small =
      let judge : Seen → Verdict = judge_in code scheme in
      let rows : List NodeRow = certifies.rows in
      let labels : List (List Bool) = certifies.labels in
      let input : Input = labelled code rows labels in
      let same : labels_in input ≡ labels =
      bare-named (ids_of rows) labels
      (certifies.shows.each ∙ sym (length-map rows (λ (row : NodeRow). row.id))) in
      verified_input scheme (bytes ++ text) input certifies.parts small read_back
      certifies.components
      (ap (λ (labels : List (List Bool)). all_accept (decided_by judge rows labels)) same
      ∙ accepted_all judge rows labels certifies.shows.accepted)
