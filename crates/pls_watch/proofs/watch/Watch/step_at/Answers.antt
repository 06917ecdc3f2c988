use Rattle.pls_watch.proofs.watch.Watch.step_at.Goals as goal

pub returns-in-Relabel-clause-others : goal.returns-in-Relabel-clause-others
returns-in-Relabel-clause-others c =
    rw (c.in-Relabel.is, ← c.bits.ensures) c.relabel.ensures.others
