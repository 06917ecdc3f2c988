use Rattle.pls_pathmax.proofs.pass.PathMaxPassJudgesInPlace.open.Goals as goal

pub returns : goal.returns
returns g c id state label front = c.before-2.ensures c.args.self.now.first id state label
