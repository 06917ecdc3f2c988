-- A text says one list of events and looks, which are counted.
use Rattle.std.proofs.Common.{◌≡◌, ◌∙◌, ℕ, List, [], codes, sym, ap, append-nil}
use Rattle.pls_lines.specs.Counted.{counted}
use Rattle.pls_lines.specs.LineKind.{Always, alone}
use Rattle.pls_lines.proofs.ListRead.{one_list}
use Rattle.pls_watch_part.specs.declared.watch_event.WatchLine.{WatchLine}
use Rattle.pls_watch_part.specs.WatchText.{AreWatch, FitsWatch, HasWatch, TellsWatch, WrittenWatch, looks_of, watch_line, watch_text}
use Rattle.pls_watch_part.specs.laws.WatchLaws.{watch_headings, watch_lines, watch_list}

-- one text says one list of lines
pub one_told : (text : List ℕ) (a b : List WatchLine) → TellsWatch text a → TellsWatch text b → a ≡ b
one_told text a b p q =
    let one =
    one_list Always (alone (codes "watch")) FitsWatch watch_line AreWatch watch_headings
    watch_lines watch_list watch_list.heading watch_list.heading a b [] [] tt tt p.are q.are
    (append-nil (watch_text a) ∙ sym p.is ∙ q.is ∙ sym (append-nil (watch_text b))) in
    one.items

module _ (written : WrittenWatch) (told : HasWatch written) (lines : List WatchLine)
    (tells : TellsWatch written.text lines) where
  same : told.list ≡ lines
  same = one_told written.text _ _ told.tells tells

  -- so its lines and looks are counted
  pub lines_counted : written.events ≡ counted lines
  lines_counted = told.events ∙ ap counted same

  pub looks_counted : written.looks ≡ counted (looks_of lines)
  looks_counted = told.looks ∙ ap (λ (lines : List WatchLine). counted (looks_of lines)) same
