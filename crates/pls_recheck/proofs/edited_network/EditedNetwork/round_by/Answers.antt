use Rattle.std.proofs.Common.{Bool, List, length, subst, sym}
use Rattle.pls_recheck.specs.Snapshot.{IsCurrent, Snapshot}
use Rattle.pls_recheck.specs.inner.Flags.{AreAround}
use Rattle.pls_recheck.proofs.Cleared.{current_by_flags, current_by_ids}
use Rattle.pls_recheck.proofs.Noted.{nothing_noted}
use Rattle.pls_recheck.proofs.edited_network.EditedNetwork.round_by.Goals as goal

pub judge_flagged-requires-clause-current : goal.judge_flagged-requires-clause-current
judge_flagged-requires-clause-current g c =
    current_by_flags (g.A.Asks.judge c.args.asks.now c.args.counter.now) c.self.inside.net c.self.inside.labels
    c.self.inside.flags.items c.self.inside.kept.items c.is_valid.ensures
    c.self.invariant.a_flag
    (subst (λ (now : Snapshot). IsCurrent (g.A.Asks.judge c.args.asks.now c.args.counter.now) now)
    (sym c.self.view_is) c.requires.current)

pub returns-clause-current : goal.returns-clause-current
returns-clause-current g c =
    current_by_ids (g.A.Asks.judge c.args.asks.now c.args.counter.now) c.self.inside.net c.self.inside.labels
    c.judge_flagged.new.flags.items c.judge_flagged.new.kept.items c.is_valid.ensures
    c.judge_flagged.ensures.a_flag c.judge_flagged.ensures.current

pub invariant_of-self : goal.invariant_of-self
invariant_of-self g c =
    let rows = c.self.inside.net in
    let around = c.self.inside.around.items in
    let flags = c.judge_flagged.new.flags.items in
    record {
      a_label = c.self.invariant.a_label;
      a_flag = c.judge_flagged.ensures.a_flag;
      a_verdict = c.judge_flagged.ensures.a_verdict;
      noted = subst (λ (around : List Bool). AreAround rows flags around) (sym c.forget_all.ensures)
          (nothing_noted rows flags (length around) c.self.invariant.noted.as_many);
    }
