use Rattle.pls_mst.proofs.mst.MstRulesJudgesInPlace.open.Goals as goal

pub returns : goal.returns
returns g c id state label front = c.before-2.ensures id state label
