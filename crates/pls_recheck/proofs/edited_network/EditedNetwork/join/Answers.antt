use Rattle.std.proofs.Common.{◌∙◌, ap, arith, length, refl, subst, sym}
use Rattle.pls_edits.specs.declared.edit.Edit.TheVariants.{Join}
use Rattle.pls_recheck.specs.After.{snapshot_after}
use Rattle.pls_recheck.specs.Snapshot.{IsCurrent, Snapshot}
use Rattle.pls_recheck.proofs.Carried.{Kept}
use Rattle.pls_recheck.proofs.Carrying.{join_current, join_keeps, join_makes}
use Rattle.pls_recheck.proofs.Coming.{joined_at, place_inside}
use Rattle.pls_recheck.proofs.edited_network.EditedNetwork.join.Goals as goal

pub insert_reserved-requires-clause-within : goal.insert_reserved-requires-clause-within
insert_reserved-requires-clause-within c =
    let fits = place_inside c.self.inside.net c.in_ok-i.ensures.was_valid c.args.id c.args.mark
    c.args.num c.in_ok-i.ensures.allowed in
    let same = ap length c.reserve.ensures.items in
    omega (arith, fits, c.in_ok-i.ensures.place, same, c.self.invariant.a_flag)

pub insert_reserved-requires-2-clause-within : goal.insert_reserved-requires-2-clause-within
insert_reserved-requires-2-clause-within c =
    let fits = place_inside c.self.inside.net c.in_ok-i.ensures.was_valid c.args.id c.args.mark
    c.args.num c.in_ok-i.ensures.allowed in
    let same = ap length c.reserve-2.ensures.items in
    omega (arith, fits, c.in_ok-i.ensures.place, same, c.self.invariant.noted.as_many)

pub insert_reserved-requires-3-clause-within : goal.insert_reserved-requires-3-clause-within
insert_reserved-requires-3-clause-within c =
    let fits = place_inside c.self.inside.net c.in_ok-i.ensures.was_valid c.args.id c.args.mark
    c.args.num c.in_ok-i.ensures.allowed in
    let same = ap length c.reserve-3.ensures.items in
    omega (arith, fits, c.in_ok-i.ensures.place, same, c.self.invariant.a_verdict)

pub invariant_of-self-2 : goal.invariant_of-self-2
invariant_of-self-2 c =
    let before : Kept = record {
      rows = c.self.inside.net;
      labels = c.self.inside.labels;
      flags = c.self.inside.flags.items;
      around = c.self.inside.around.items;
      verdicts = c.self.inside.kept.items;
    } in
    let now : Kept = record {
      rows = c.join_with_label.new.net;
      labels = c.join_with_label.new.labels;
      flags = c.insert_reserved.new.items.items;
      around = c.insert_reserved-2.new.items.items;
      verdicts = c.insert_reserved-3.new.items.items;
    } in
    join_keeps before c.in_ok-i.ensures.was_valid c.self.invariant now c.in_ok-i.ensures.valid c.args.id
    c.args.mark c.args.num c.in_ok-i.i c.in_ok-i.ensures.allowed c.in_ok-i.ensures.place
    (rw (
      c.in_ok-i.ensures.network
          ∙ joined_at c.self.inside.net c.in_ok-i.ensures.was_valid c.args.id c.args.mark c.args.num
          c.in_ok-i.ensures.allowed,
      sym c.in_ok-i.ensures.place,
      c.in_ok-i.ensures.labels,
      c.insert_reserved.ensures,
      c.insert_reserved-2.ensures,
      c.insert_reserved-3.ensures,
      c.reserve.ensures.items,
      c.reserve-2.ensures.items,
      c.reserve-3.ensures.items,
    ) refl)

pub returns-clause-ok : goal.returns-clause-ok
returns-clause-ok c =
    let before : Kept = record {
      rows = c.self.inside.net;
      labels = c.self.inside.labels;
      flags = c.self.inside.flags.items;
      around = c.self.inside.around.items;
      verdicts = c.self.inside.kept.items;
    } in
    let now : Kept = record {
      rows = c.join_with_label.new.net;
      labels = c.join_with_label.new.labels;
      flags = c.insert_reserved.new.items.items;
      around = c.insert_reserved-2.new.items.items;
      verdicts = c.insert_reserved-3.new.items.items;
    } in
    join_makes before c.in_ok-i.ensures.was_valid c.self.invariant now c.in_ok-i.ensures.valid c.args.id
    c.args.mark c.args.num c.in_ok-i.i c.in_ok-i.ensures.allowed c.in_ok-i.ensures.place
    (rw (
      c.in_ok-i.ensures.network
          ∙ joined_at c.self.inside.net c.in_ok-i.ensures.was_valid c.args.id c.args.mark c.args.num
          c.in_ok-i.ensures.allowed,
      sym c.in_ok-i.ensures.place,
      c.in_ok-i.ensures.labels,
      c.insert_reserved.ensures,
      c.insert_reserved-2.ensures,
      c.insert_reserved-3.ensures,
      c.reserve.ensures.items,
      c.reserve-2.ensures.items,
      c.reserve-3.ensures.items,
    ) refl)
    ∙ ap (snapshot_after (Join c.args.id c.args.mark c.args.num)) c.self.view_is

pub returns-clause-current : goal.returns-clause-current
returns-clause-current c = λ judge current.
    let before : Kept = record {
      rows = c.self.inside.net;
      labels = c.self.inside.labels;
      flags = c.self.inside.flags.items;
      around = c.self.inside.around.items;
      verdicts = c.self.inside.kept.items;
    } in
    let now : Kept = record {
      rows = c.join_with_label.new.net;
      labels = c.join_with_label.new.labels;
      flags = c.insert_reserved.new.items.items;
      around = c.insert_reserved-2.new.items.items;
      verdicts = c.insert_reserved-3.new.items.items;
    } in
    join_current before c.in_ok-i.ensures.was_valid c.self.invariant now c.in_ok-i.ensures.valid c.args.id
    c.args.mark c.args.num c.in_ok-i.i c.in_ok-i.ensures.allowed c.in_ok-i.ensures.place
    (rw (
      c.in_ok-i.ensures.network
          ∙ joined_at c.self.inside.net c.in_ok-i.ensures.was_valid c.args.id c.args.mark c.args.num
          c.in_ok-i.ensures.allowed,
      sym c.in_ok-i.ensures.place,
      c.in_ok-i.ensures.labels,
      c.insert_reserved.ensures,
      c.insert_reserved-2.ensures,
      c.insert_reserved-3.ensures,
      c.reserve.ensures.items,
      c.reserve-2.ensures.items,
      c.reserve-3.ensures.items,
    ) refl) judge
    (subst (λ (now : Snapshot). IsCurrent judge now) (sym c.self.view_is) current)

pub returns-clause-within : goal.returns-clause-within
returns-clause-within c =
    let fits = place_inside c.self.inside.net c.in_ok-i.ensures.was_valid c.args.id c.args.mark
    c.args.num c.in_ok-i.ensures.allowed in
    let same = ap (λ (now : Snapshot). length now.labels) c.self.view_is in
    omega (arith, fits, c.in_ok-i.ensures.place, same, c.self.invariant.a_label)
