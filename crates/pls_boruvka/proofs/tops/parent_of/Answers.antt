use Rattle.std.proofs.Common.{◌<◌, ℕ, Option, IfSome, length, arith, subst}
use Rattle.pls_boruvka.proofs.tops.parent_of.Goals as goal

pub overflow_cast-result : goal.overflow_cast-result
overflow_cast-result c =
    let inside : c.in-Some.parent < length c.args.net.now =
    subst (λ (found : Option ℕ). IfSome found (λ to. to < length c.args.net.now)) c.in-Some.is
    c.pointed_place.ensures.within in
    omega (arith, inside, c.requires.few)
