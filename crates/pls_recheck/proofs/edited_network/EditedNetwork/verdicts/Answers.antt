use Rattle.std.proofs.Common.{◌≡◌, ◌∙◌, length, ap, subst, arith}
use Rattle.pls_recheck.specs.Snapshot.{Snapshot}
use Rattle.pls_recheck.proofs.Current.{full_round, no_items}
use Rattle.pls_recheck.proofs.edited_network.EditedNetwork.verdicts.Goals as goal

pub returns-clause-all : goal.returns-clause-all
returns-clause-all c = λ judge current.
    c.as_slice.ensures.value ∙ ap (λ (now : Snapshot). now.kept) c.self.view_is
    ∙ full_round judge c.args.self.now
    (no_items c.args.self.now.touched (omega (arith, c.touched_count.ensures, c.if-touched_count-gt0.false)))
    (subst (λ (now : Snapshot). length now.kept ≡ length now.network) c.self.view_is
    c.self.invariant.a_verdict) current
