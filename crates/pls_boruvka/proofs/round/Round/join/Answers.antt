use Rattle.std.proofs.Common.{Bool, List, length, sym, subst}
use Rattle.pls_boruvka.specs.declared.joining.ChosenEnd.{ChosenEnd}
use Rattle.pls_boruvka.specs.inner.Chosen.{AreChildrenWithin, JoinChildren}
use Rattle.pls_boruvka.proofs.SaidOnce.{AreChildrenWithin-once, JoinChildren-once}
use Rattle.pls_boruvka.proofs.round.Round.join.Goals as goal

pub join-requires : goal.join-requires
join-requires c =
    let size = length c.args.joined.now in record {
      within = subst (AreChildrenWithin size) (sym c.as_slice.ensures.value)
          (AreChildrenWithin-once c.self.inside.numbers.items c.self.inside.chosen.items
          c.self.invariant size (subst (AreChildrenWithin size) (sym c.self.view_is)
          c.requires.within));
    }

pub returns : goal.returns
returns c =
    let old : List Bool = c.args.joined.now in
    let new : List Bool = c.join.new.joined in
    subst (λ (all : List ChosenEnd). JoinChildren all (length all) old new) c.self.view_is
    (JoinChildren-once c.self.inside.numbers.items c.self.inside.chosen.items c.self.invariant old
    new (subst (λ (chosen : List ChosenEnd). JoinChildren chosen (length chosen) old new)
    c.as_slice.ensures.value c.join.ensures))
