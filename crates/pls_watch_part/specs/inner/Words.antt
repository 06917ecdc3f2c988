-- What the words of a line say, where the word for a label's bits is lent.
use Rattle.pls_watch_part.specs.declared.watch_event.WatchEvent.TheVariants.{Relabel}
use Rattle.pls_watch_part.specs.declared.watch_event.WatchLine.{WatchLine}
use Rattle.pls_watch_part.specs.declared.watch_event.WatchLine.TheVariants as Line
use Rattle.pls_watch_part.specs.declared.watch_words.Words.{Words}
use Rattle.pls_watch_part.specs.declared.watch_words.Words.TheVariants as Lent
use Rattle.pls_watch_part.specs.WatchText.{watch_event}

-- the line that the words say
abbrev pub line_said : Words → WatchLine
line_said (Lent.Plain event) = Line.Event (watch_event event)
line_said (Lent.Relabel label) = Line.Event (Relabel label.id label.bits)
line_said Lent.Look = Line.Look
