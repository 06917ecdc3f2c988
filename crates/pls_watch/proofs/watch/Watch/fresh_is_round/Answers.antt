use Rattle.pls_watch.specs.Labelled.{turns_of}
use Rattle.pls_watch.specs.Watching.{version_of_label}
use Rattle.pls_watch.proofs.Laws.{fresh_round}
use Rattle.pls_watch.proofs.watch.Watch.fresh_is_round.Goals as goal

pub returns : goal.returns
returns g c = λ row stands heard fresh.
    fresh_round (g.K.Checker.judge c.args.checker.now) c.args.self.now.network
    (version_of_label c.args.self.now) (turns_of c.args.self.now.events) row heard fresh
