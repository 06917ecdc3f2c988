use Rattle.std.proofs.Common.{length}
use Rattle.pls_words.proofs.reading.+has_dashed.Given as goal

abbrev pub decreases-has_dashed : goal.decreases-has_dashed
decreases-has_dashed l = length l.words.now
