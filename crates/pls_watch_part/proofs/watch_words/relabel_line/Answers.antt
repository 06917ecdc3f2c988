use Rattle.pls_watch_part.proofs.LineTexts.{no_relabel, none_more}
use Rattle.pls_watch_part.proofs.watch_words.relabel_line.Goals as goal

pub returns-clause-none : goal.returns-clause-none
returns-clause-none c =
    none_more c.read.result _ _ (no_relabel c.args.text.now c.in_ok-word.word.now
    c.in_ok-label.label.now c.in_ok-word.ensures.stands c.in_ok-label.ensures.stands)
    c.read.ensures.none
