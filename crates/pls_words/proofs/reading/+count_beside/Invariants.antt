use Rattle.std.proofs.Common.{length}
use Rattle.pls_words.proofs.reading.+count_beside.Given as goal

abbrev pub decreases-count_beside : goal.decreases-count_beside
decreases-count_beside l = length l.words.now
