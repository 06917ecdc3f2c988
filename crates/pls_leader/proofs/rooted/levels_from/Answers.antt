use Rattle.pls_leader.proofs.Right.{all_levels}
use Rattle.pls_leader.proofs.rooted.levels_from.Goals as goal

pub returns : goal.returns
returns c =
    rw (c.in_ok-levels.ensures, c.deref.ensures.value)
    (all_levels c.args.net.now c.args.place c.in_ok-found.found.items c.requires.joined
    c.in_ok-found.ensures)
