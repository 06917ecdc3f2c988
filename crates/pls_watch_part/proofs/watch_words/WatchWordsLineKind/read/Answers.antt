use Rattle.pls_watch_part.proofs.LineTexts.{no_line}
use Rattle.pls_watch_part.proofs.watch_words.WatchWordsLineKind.read.Goals as goal

pub returns-in_err-label-clause-none : goal.returns-in_err-label-clause-none
returns-in_err-label-clause-none c =
    rw c.from_residual.ensures
    (no_line c.args.text.now c.in_default.ensures.none c.in_default-after_line.ensures.none
    c.in_err-label.ensures.none)
