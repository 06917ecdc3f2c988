use Rattle.pls_recheck.proofs.recheck.Recheck.start.Goals as goal

pub invariant_of-result : goal.invariant_of-result
invariant_of-result g c = c.in_ok-core.ensures.current (g.J.Judge.judge c.args.judge)
