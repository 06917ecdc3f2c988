-- The lines that were taken were played, and the others are left.
use Rattle.std.proofs.Common.{◌≡◌, length}
use Rattle.pls_app.proofs.WatchPlay.{IsPlayed}
use Rattle.pls_app.proofs.watch.play.Given as goal

abbrev pub invariant-loop-line : goal.invariant-loop-line
invariant-loop-line g l = (l.lookout.checker ≡ l.fn.lookout.checker)
    × IsPlayed (g.K.Checker.judge l.fn.lookout.checker) l.fn.lookout.watched.network
    l.fn.lookout.watched.start l.fn.lines l.place l.lines l.lookout.watched l.lookout.kept l.well

abbrev pub decreases-loop-line : goal.decreases-loop-line
decreases-loop-line g l = length l.lines
