-- A text says one list of edits and rounds, which are counted.
use Rattle.std.proofs.Common.{◌≡◌, ◌∙◌, ℕ, List, [], codes, sym, ap, append-nil}
use Rattle.pls_lines.specs.Counted.{counted}
use Rattle.pls_lines.specs.LineKind.{Always, alone}
use Rattle.pls_lines.proofs.ListRead.{one_list}
use Rattle.pls_edits.specs.declared.edit_line.EditLine.{EditLine}
use Rattle.pls_edits.specs.EditsText.{AreEdits, FitsEdit, HasEdits, TellsEdits, WrittenEdits, edit_line, edits_text, rounds_of}
use Rattle.pls_edits.specs.laws.EditLaws.{edit_lines, edits_headings, edits_list}

-- one text says one list of lines
pub one_told : (text : List ℕ) (a b : List EditLine) → TellsEdits text a → TellsEdits text b → a ≡ b
one_told text a b p q =
    let one =
    one_list Always (alone (codes "edits")) FitsEdit edit_line AreEdits edits_headings
    edit_lines edits_list edits_list.heading edits_list.heading a b [] [] tt tt p.are q.are
    (append-nil (edits_text a) ∙ sym p.is ∙ q.is ∙ sym (append-nil (edits_text b))) in
    one.items

module _ (written : WrittenEdits) (told : HasEdits written) (lines : List EditLine)
    (tells : TellsEdits written.text lines) where
  same : told.list ≡ lines
  same = one_told written.text _ _ told.tells tells

  -- so its lines and rounds are counted
  pub lines_counted : written.events ≡ counted lines
  lines_counted = told.events ∙ ap counted same

  pub rounds_counted : written.rounds ≡ counted (rounds_of lines)
  rounds_counted = told.rounds ∙ ap (λ (lines : List EditLine). counted (rounds_of lines)) same
