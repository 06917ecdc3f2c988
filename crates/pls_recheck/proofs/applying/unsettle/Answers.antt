use Rattle.std.proofs.Common.{sym}
use Rattle.pls_recheck.proofs.Noted.{clear_none, clear_one}
use Rattle.pls_recheck.proofs.Touching.{touch_none, touch_one}
use Rattle.pls_recheck.proofs.applying.unsettle.Goals as goal

pub returns-in-Some-clause-touched : goal.returns-in-Some-clause-touched
returns-in-Some-clause-touched c =
    touch_one c.args.net.now c.place_of.ensures.valid c.args.flags.now.items c.args.id c.in-Some.i
    (sym c.in-Some.ensures.place) c.requires.a_flag

pub returns-in-Some-clause-cleared : goal.returns-in-Some-clause-cleared
returns-in-Some-clause-cleared c =
    clear_one c.args.net.now c.place_of.ensures.valid c.args.around.now.items c.args.id c.in-Some.i
    (sym c.in-Some.ensures.place)

pub returns-in_default-clause-touched : goal.returns-in_default-clause-touched
returns-in_default-clause-touched c =
    touch_none c.args.net.now c.place_of.ensures.valid c.args.flags.now.items c.args.id
    (sym c.in_default.ensures.place)

pub returns-in_default-clause-cleared : goal.returns-in_default-clause-cleared
returns-in_default-clause-cleared c =
    clear_none c.args.net.now c.place_of.ensures.valid c.args.around.now.items c.args.id
    (sym c.in_default.ensures.place)
