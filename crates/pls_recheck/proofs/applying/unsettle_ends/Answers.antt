use Rattle.std.proofs.Common.{◌==◌}
use Rattle.pls_recheck.proofs.Noted.{clear_twice}
use Rattle.pls_recheck.proofs.Touching.{touch_twice}
use Rattle.pls_recheck.proofs.applying.unsettle_ends.Goals as goal

pub returns-clause-touched : goal.returns-clause-touched
returns-clause-touched c =
    touch_twice c.args.net.now c.args.flags.now.items c.unsettle.new.flags.items
    c.unsettle-2.new.flags.items (λ node. c.args.a == node) (λ node. c.args.b == node)
    c.unsettle.ensures.touched c.unsettle-2.ensures.touched

pub returns-clause-cleared : goal.returns-clause-cleared
returns-clause-cleared c =
    clear_twice c.args.net.now c.args.around.now.items c.unsettle.new.around.items
    c.unsettle-2.new.around.items (λ node. c.args.a == node) (λ node. c.args.b == node)
    c.unsettle.ensures.cleared c.unsettle-2.ensures.cleared
