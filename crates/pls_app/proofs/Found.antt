-- What the rounds of an input show of its network.
use Rattle.std.proofs.Common.{◌≡◌, ◌∙◌, ℕ, ◌+◌, Bool, true, false, if◌then◌else◌, List, [], ◌∷◌, length, Option, Some, None, option_map, refl, sym, ap, subst}
use Rattle.pls_configuration.specs.declared.row.NodeRow.{NodeRow}
use Rattle.pls_configuration.specs.declared.verdict.Verdict.{Verdict}
use Rattle.pls_configuration.specs.declared.status.Status.TheVariants.{Done, No}
use Rattle.pls_configuration.specs.Configuration.{IsNetwork}
use Rattle.pls_streams.specs.Steps.{up_by}
use Rattle.pls_labels.specs.Seen.{Seen}
use Rattle.pls_expressions.specs.Expression.{Expression}
use Rattle.pls_edits.specs.declared.edit_line.EditLine.{EditLine}
use Rattle.pls_edits.specs.declared.edit_line.EditLine.TheVariants.{Round}
use Rattle.pls_edits.specs.EditsText.{AreEdits, is_round}
use Rattle.pls_closing.specs.Closing.{is_closed}
use Rattle.pls_inputs.specs.Parts.{Input, code_in, edits_in, labels_in, rows_in}
use Rattle.pls_app.specs.Meant.{Holds, judge_in}
use Rattle.pls_streams.specs.declared.text_error.TextError.{TextError}
use Rattle.pls_streams.specs.declared.text_error.TextError.TheVariants.{Sense}
use Rattle.pls_streams.specs.declared.refusal_number.TheConstants.{EDIT}
use Rattle.pls_app.specs.EditsRefusal.{first_refused_edit, edits_refusal}
use Rattle.pls_app.specs.Said.{Answer}
use Rattle.pls_app.specs.Answer.{refusal_answer, rounds_answer}
use Rattle.pls_app.specs.Reports.{Report, ReportInput, Situation, checked_in, edited_by, first_situation, rounds_end_well}
use Rattle.pls_app.specs.inner.Rechecking.{AddsReports, AddsReport, behind_all}
use Rattle.pls_app.specs.inner.Tasks.{RecheckedIn}
use Rattle.pls_app.proofs.Proved.{refused_not_done, refused_not_judged, round_holds}
use Rattle.pls_app.proofs.Rechecked.{EndsIn, ends_so, played_more, round_played, rows_after}

-- a round before the lines closes them too
round_first : (edits : List EditLine) → is_closed is_round true edits ≡ true
    → is_closed is_round true (Round ∷ edits) ≡ true
round_first [] closed = refl
round_first (edit ∷ edits) closed = closed

-- round 0, and then the lines of an input
pub all_played : (judge : Seen → Verdict) (input : Input) (mid now : Situation)
    (first reports : List Report) (old asked new : ℕ)
    → AddsReport judge (first_situation input) mid [] first old asked
    → AddsReports judge mid now first reports (edits_in input) asked new
    → AddsReports judge (first_situation input) now [] reports (Round ∷ (edits_in input)) old new
all_played judge input mid now first reports old asked new one others =
    played_more judge (first_situation input) mid now [] first reports (Round ∷ []) (edits_in input) old asked new
    (round_played judge (first_situation input) mid [] first old asked one) others

module _ (scheme : Expression) (input : Input) (now : Situation) (reports : List Report)
    (old new : ℕ)
    (played : AddsReports (judge_in (code_in input) scheme) (first_situation input) now [] reports
    (Round ∷ (edits_in input)) old new) where
  -- these are the reports of the input
  pub are_reports : ReportInput (judge_in (code_in input) scheme) input reports
  are_reports =
      subst (ReportInput (judge_in (code_in input) scheme) input) (sym played.added) played.are

  -- and the bench was asked once for each node that they say was checked
  pub are_asked : (reports : List Report) × ReportInput (judge_in (code_in input) scheme) input reports
      × (new ≡ up_by (checked_in reports) old)
  are_asked = (
    reports,
    are_reports,
    played.asked ∙ ap (λ (all : List Report). up_by (checked_in all) old) (sym played.added),
  )

  -- where all is well in the last, the network has the property after all edits
  pub all_well : AreEdits (edits_in input) → IsNetwork now.rows → length now.labels ≡ length now.rows
      → rounds_end_well reports ≡ true → Holds scheme (edited_by (edits_in input) (rows_in input))
  all_well edits network each well =
      let judge = judge_in (code_in input) scheme in
      let ends : EndsIn judge (behind_all (Round ∷ (edits_in input)) (first_situation input)) =
      ends_so judge Round (edits_in input) (first_situation input) 0 reports
      (round_first (edits_in input) edits.closed) are_reports well in
      let here : EndsIn judge now = subst (EndsIn judge) (sym played.is) ends in
      let rows : now.rows ≡ edited_by (edits_in input) (rows_in input) =
      ap (λ (now : Situation). now.rows) played.is ∙ rows_after (Round ∷ (edits_in input)) (first_situation input) in
      subst (Holds scheme) rows
      (round_holds (code_in input) scheme now.rows now.labels network each here)

  -- so the answer with the reports says
  pub all_found : AreEdits (edits_in input) → IsNetwork now.rows → length now.labels ≡ length now.rows
      → RecheckedIn scheme input (rounds_answer reports).status old new
  all_found edits network each = record {
    held = λ done. all_well edits network each (done_well (rounds_end_well reports) done);
    asked = λ judged. are_asked;
  }
    where
      done_well : (well : Bool) → (if well then Done else No) ≡ Done → well ≡ true
      done_well true done = refl
      done_well false done = absurd (cc)

-- a refusal has found nothing
pub refused_in : (scheme : Expression) (input : Input) (error : TextError) (answer : Answer)
    (old new : ℕ) → answer ≡ refusal_answer error → RecheckedIn scheme input answer.status old new
refused_in scheme input error answer old new same =
    let ends = ap (λ (answer : Answer). answer.status) same in record {
      held = λ done. absurd (refused_not_done error (sym ends ∙ done));
      asked = λ judged. absurd (refused_not_judged error answer.status ends judged);
    }

-- the same, of what is known to be the parts of the input
pub played_input : (judge one other : Seen → Verdict) (input : Input) (start mid now : Situation)
    (none first reports : List Report) (edits : List EditLine) (old asked new : ℕ) → one ≡ judge
    → other ≡ judge → start ≡ first_situation input → none ≡ [] → edits ≡ (edits_in input)
    → AddsReport one start mid none first old asked
    → AddsReports other mid now first reports edits asked new
    → AddsReports judge (first_situation input) now [] reports (Round ∷ (edits_in input)) old new
played_input judge one other input start mid now none first reports edits old asked new same too
    begins empty are one_report played =
    let here : AddsReport judge (first_situation input) mid [] first old asked =
    subst (λ (judge : Seen → Verdict). AddsReport judge (first_situation input) mid [] first old asked) same
    (subst (λ (start : Situation). AddsReport one start mid [] first old asked) begins
    (subst (λ (none : List Report). AddsReport one start mid none first old asked) empty one_report)) in
    let there : AddsReports judge mid now first reports (edits_in input) asked new =
    subst (λ (judge : Seen → Verdict). AddsReports judge mid now first reports (edits_in input) asked new) too
    (subst (λ (edits : List EditLine). AddsReports other mid now first reports edits asked new) are played) in
    all_played judge input mid now first reports old asked new here there

-- the first edit that is refused, by the place that was found
pub refused_lines : (input : Input) (rows : List NodeRow) (labels : List (List Bool))
    (edits : List EditLine) (line : ℕ) (found : Option ℕ) → rows ≡ (rows_in input)
    → labels ≡ (labels_in input) → edits ≡ (edits_in input)
    → ((line : ℕ) → first_refused_edit rows labels line edits ≡ option_map (λ place. line + place) found)
    → edits_refusal (rows_in input) (labels_in input) line (edits_in input)
    ≡ option_map (λ place. Sense EDIT (line + place)) found
refused_lines input rows labels edits line found same_rows same_labels same_edits each =
    ap (option_map (λ line. Sense EDIT line))
    ((λ i. first_refused_edit (sym same_rows i) (sym same_labels i) line (sym same_edits i)) ∙ each line)
    ∙ by found
  where
    by : (found : Option ℕ)
        → option_map (λ line. Sense EDIT line) (option_map (λ place. line + place) found)
        ≡ option_map (λ place. Sense EDIT (line + place)) found
    by None = refl
    by (Some place) = refl
