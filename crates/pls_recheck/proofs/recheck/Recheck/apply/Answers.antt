use Rattle.pls_recheck.proofs.recheck.Recheck.apply.Goals as goal

pub invariant_of-self-2 : goal.invariant_of-self-2
invariant_of-self-2 g c =
    c.in_ok-apply.ensures.current (g.J.Judge.judge c.self.inside.judge) c.self.invariant
