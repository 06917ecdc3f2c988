use Rattle.std.proofs.Common.{◌==◌}
use Rattle.pls_recheck.proofs.Touching.{touch_twice}
use Rattle.pls_recheck.proofs.applying.touch_ends.Goals as goal

pub returns-clause-touched : goal.returns-clause-touched
returns-clause-touched c =
    touch_twice c.args.net.now c.args.flags.now.items c.touch.new.flags.items
    c.touch-2.new.flags.items (λ node. c.args.a == node) (λ node. c.args.b == node)
    c.touch.ensures.touched c.touch-2.ensures.touched
