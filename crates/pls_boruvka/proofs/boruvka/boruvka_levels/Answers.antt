use Rattle.std.proofs.Common.{◌≡◌, ◌∙◌, ◌∷◌, ◌≤◌, ◌^◌, ℕ, Bool, false, List, [], Option, IfSome, IfNone, All, length, replicate, refl, sym, ap, subst}
use Rattle.std.proofs.lemmas.List.Elements.{All-append, All-cons, All-nil}
use Rattle.pls_configuration.specs.declared.row.NodeRow.{NodeRow}
use Rattle.pls_boruvka.specs.declared.joining.ChosenEnd.{ChosenEnd}
use Rattle.pls_boruvka.specs.declared.level.Level.{Level}
use Rattle.pls_boruvka.specs.Boruvka.{AreLevelLists}
use Rattle.pls_boruvka.specs.inner.Chosen.{AreChosen, SomeUnpointed, levels_said}
use Rattle.pls_boruvka.specs.inner.Tops.{AreParents, AreTops, HasDepths}
use Rattle.pls_boruvka.proofs.Begun.{AreLevelLists-begun, IsBegun, IsBegun-more, IsBegun-none, IsLightest-begun, children_begun, few_begun, fewer_unjoined, lighter_begun, tops_within}
use Rattle.pls_boruvka.proofs.ChainLengths.{Falls-chains, depth_few}
use Rattle.pls_boruvka.proofs.Placing.{HasDepths-rows}
use Rattle.pls_boruvka.proofs.Rounds.{AddLevel, said_by-more, said_by-none}
use Rattle.pls_boruvka.proofs.boruvka.boruvka_levels.Goals as goal

-- what the rounds so far say
abbrev lists_by : List NodeRow → List (List ChosenEnd) → List (List Level)
lists_by rows rounds = levels_said rounds (length rows)

pub loop-choices-init : goal.loop-choices-init
loop-choices-init c =
    let rows = c.args.net.now in
    let falses : c.as_mut_slice-joined.result.now ≡ replicate (length rows) false =
    c.as_mut_slice-joined.ensures.value ∙ c.in_ok-joined.ensures
    ∙ ap (λ (count : ℕ). replicate count false) c.len.ensures.len in
    let lists : lists_by rows c.new-rounds.result.items ≡ replicate (length rows) [] =
    ap (lists_by rows) c.new-rounds.ensures.items ∙ said_by-none (length rows) in
    record {
      each = subst (All (λ all. length all ≡ length rows)) (sym c.new-rounds.ensures.items)
          (All-nil (λ all. length all ≡ length rows));
      begun = subst (λ (flags : List Bool). IsBegun rows flags
          (lists_by rows c.new-rounds.result.items)) (sym falses)
          (subst (IsBegun rows (replicate (length rows) false)) (sym lists)
          (IsBegun-none rows c.len.ensures.valid c.requires.tree));
      noted = ap length c.as_mut_slice-noted.ensures.value ∙ c.in_ok-noted.ensures
          ∙ c.len-2.ensures.len;
      choices = ap length c.as_mut_slice-choices.ensures.value ∙ c.in_ok-choices.ensures
          ∙ c.len-3.ensures.len;
    }

pub tops_with-requires-clause-falls : goal.tops_with-requires-clause-falls
tops_with-requires-clause-falls c =
    let rows = c.args.net.now in
    let valid = c.len.ensures.valid in
    let begun = c.loop-choices.invariant.begun in
    subst HasDepths (sym c.as_slice-parents.ensures.value)
    (HasDepths-rows rows valid c.in_ok-parents.parents.items c.in_ok-parents.ensures begun.depth
    (Falls-chains rows valid begun.depth begun.deep) (depth_few rows valid begun.depth begun.deep))

pub returns-then-are_one-clause-levels : goal.returns-then-are_one-clause-levels
returns-then-are_one-clause-levels c =
    let rows = c.args.net.now in
    let parents = c.as_slice-parents.result.now in
    let flags = c.loop-choices.joined in
    let tops = c.as_slice-tops.result.now in
    subst (AreLevelLists rows)
    (sym (c.in_ok-lists.ensures
    ∙ ap (λ (count : ℕ). levels_said c.loop-choices.rounds.items count) c.len-then-are_one.ensures.len))
    (AreLevelLists-begun rows c.len.ensures.valid parents flags tops
    (subst (AreParents rows) (sym c.as_slice-parents.ensures.value) c.in_ok-parents.ensures)
    (subst (AreTops parents flags) (sym c.as_slice-tops.ensures.value) c.in_ok-tops.ensures.tops)
    c.requires.tree (lists_by rows c.loop-choices.rounds.items) c.loop-choices.invariant.begun
    (c.if-are_one.ensures.one refl))

pub returns-then-are_one-clause-few : goal.returns-then-are_one-clause-few
returns-then-are_one-clause-few c =
    let rows = c.args.net.now in
    let parents = c.as_slice-parents.result.now in
    let flags = c.loop-choices.joined in
    let tops = c.as_slice-tops.result.now in
    subst (λ (lists : List (List Level)). All (λ list. 2 ^ length list ≤ length rows) lists)
    (sym (c.in_ok-lists.ensures
    ∙ ap (λ (count : ℕ). levels_said c.loop-choices.rounds.items count) c.len-then-are_one.ensures.len))
    (few_begun rows c.len.ensures.valid parents flags tops
    (subst (AreParents rows) (sym c.as_slice-parents.ensures.value) c.in_ok-parents.ensures)
    (subst (AreTops parents flags) (sym c.as_slice-tops.ensures.value) c.in_ok-tops.ensures.tops)
    c.requires.tree (lists_by rows c.loop-choices.rounds.items) c.loop-choices.invariant.begun
    (c.if-are_one.ensures.one refl))

pub returns-then-are_one-clause-lightest : goal.returns-then-are_one-clause-lightest
returns-then-are_one-clause-lightest c =
    let rows = c.args.net.now in
    let parents = c.as_slice-parents.result.now in
    let flags = c.loop-choices.joined in
    let tops = c.as_slice-tops.result.now in
    IsLightest-begun rows c.len.ensures.valid parents flags tops
    (subst (AreParents rows) (sym c.as_slice-parents.ensures.value) c.in_ok-parents.ensures)
    (subst (AreTops parents flags) (sym c.as_slice-tops.ensures.value) c.in_ok-tops.ensures.tops)
    c.requires.tree (lists_by rows c.loop-choices.rounds.items) c.loop-choices.invariant.begun
    (c.if-are_one.ensures.one refl)

pub choices_of-requires-clause-within : goal.choices_of-requires-clause-within
choices_of-requires-clause-within c =
    let rows = c.args.net.now in
    let parents = c.as_slice-parents.result.now in
    let flags = c.loop-choices.joined in
    tops_within rows c.len.ensures.valid parents flags c.as_slice-tops.result.now
    (subst (AreParents rows) (sym c.as_slice-parents.ensures.value) c.in_ok-parents.ensures)
    (subst (AreTops parents flags) (sym c.as_slice-tops.ensures.value) c.in_ok-tops.ensures.tops)

pub of-requires-clause-within : goal.of-requires-clause-within
of-requires-clause-within c =
    let rows = c.args.net.now in
    let parents = c.as_slice-parents.result.now in
    let flags = c.loop-choices.joined in
    tops_within rows c.len.ensures.valid parents flags c.as_slice-tops.result.now
    (subst (AreParents rows) (sym c.as_slice-parents.ensures.value) c.in_ok-parents.ensures)
    (subst (AreTops parents flags) (sym c.as_slice-tops.ensures.value) c.in_ok-tops.ensures.tops)

pub returns-in_default-clause-lighter : goal.returns-in_default-clause-lighter
returns-in_default-clause-lighter c =
    let rows = c.args.net.now in
    let parents = c.as_slice-parents.result.now in
    let flags = c.loop-choices.joined in
    let tops = c.as_slice-tops.result.now in
    let choices = c.choices_of.new.choices in
    lighter_begun rows c.len.ensures.valid c.requires.tree parents flags tops
    (subst (AreParents rows) (sym c.as_slice-parents.ensures.value) c.in_ok-parents.ensures)
    (subst (AreTops parents flags) (sym c.as_slice-tops.ensures.value) c.in_ok-tops.ensures.tops)
    (c.if-are_one.ensures.apart refl) choices
    c.choices_of.ensures (lists_by rows c.loop-choices.rounds.items) c.loop-choices.invariant.begun
    (subst (λ (found : Option (List ChosenEnd)). IfNone found (SomeUnpointed tops choices))
    c.in_default.is c.in_ok-round.ensures.unpointed)

pub join-requires : goal.join-requires
join-requires c =
    let rows = c.args.net.now in
    let parents = c.as_slice-parents.result.now in
    let flags = c.loop-choices.joined in
    let tops = c.as_slice-tops.result.now in
    let choices = c.choices_of.new.choices in
    let all = c.in-Some.round in
    let chosen : AreChosen rows tops choices all =
    subst (λ (found : Option (List ChosenEnd)). IfSome found (AreChosen rows tops choices))
    c.in-Some.is c.in_ok-round.ensures.chosen in
    record {
      within = children_begun rows c.len.ensures.valid c.requires.tree parents flags tops
          (subst (AreParents rows) (sym c.as_slice-parents.ensures.value) c.in_ok-parents.ensures)
          (subst (AreTops parents flags) (sym c.as_slice-tops.ensures.value) c.in_ok-tops.ensures.tops)
          (c.if-are_one.ensures.apart refl) choices
          c.choices_of.ensures (lists_by rows c.loop-choices.rounds.items) c.loop-choices.invariant.begun all chosen;
    }

pub loop-choices-smaller : goal.loop-choices-smaller
loop-choices-smaller c =
    let rows = c.args.net.now in
    let parents = c.as_slice-parents.result.now in
    let flags = c.loop-choices.joined in
    let tops = c.as_slice-tops.result.now in
    let choices = c.choices_of.new.choices in
    let all = c.in-Some.round in
    let chosen : AreChosen rows tops choices all =
    subst (λ (found : Option (List ChosenEnd)). IfSome found (AreChosen rows tops choices))
    c.in-Some.is c.in_ok-round.ensures.chosen in
    fewer_unjoined rows c.len.ensures.valid c.requires.tree parents flags tops
    (subst (AreParents rows) (sym c.as_slice-parents.ensures.value) c.in_ok-parents.ensures)
    (subst (AreTops parents flags) (sym c.as_slice-tops.ensures.value) c.in_ok-tops.ensures.tops)
    (c.if-are_one.ensures.apart refl) choices
    c.choices_of.ensures (lists_by rows c.loop-choices.rounds.items) c.loop-choices.invariant.begun all chosen
    c.join.new.joined
    c.join.ensures

pub loop-choices-preserved : goal.loop-choices-preserved
loop-choices-preserved c =
    let rows = c.args.net.now in
    let parents = c.as_slice-parents.result.now in
    let flags = c.loop-choices.joined in
    let tops = c.as_slice-tops.result.now in
    let choices = c.choices_of.new.choices in
    let all = c.in-Some.round in
    let chosen : AreChosen rows tops choices all =
    subst (λ (found : Option (List ChosenEnd)). IfSome found (AreChosen rows tops choices))
    c.in-Some.is c.in_ok-round.ensures.chosen in
    let rounds = c.loop-choices.rounds.items in
    let each = c.loop-choices.invariant.each in
    let added : AddLevel all (lists_by rows rounds) (lists_by rows c.push.new.self.items) =
    subst (λ (new : List (List ChosenEnd)). AddLevel all (lists_by rows rounds)
    (levels_said new (length rows))) (sym c.in_ok-push.ensures.items)
    (said_by-more rounds all (length rows) chosen.each) in
    record {
      each = subst (All (λ all. length all ≡ length rows)) (sym c.in_ok-push.ensures.items)
          (All-append (λ all. length all ≡ length rows) rounds (all ∷ []) each
          (All-cons (λ all. length all ≡ length rows) all [] chosen.each
          (All-nil (λ all. length all ≡ length rows))));
      begun = IsBegun-more rows c.len.ensures.valid c.requires.tree parents flags tops
          (subst (AreParents rows) (sym c.as_slice-parents.ensures.value) c.in_ok-parents.ensures)
          (subst (AreTops parents flags) (sym c.as_slice-tops.ensures.value) c.in_ok-tops.ensures.tops)
          (c.if-are_one.ensures.apart refl) choices
          c.choices_of.ensures (lists_by rows rounds) c.loop-choices.invariant.begun all chosen
          c.join.new.joined c.join.ensures _ added;
      noted = c.of.ensures.room ∙ c.in_ok-tops.ensures.room ∙ c.loop-choices.invariant.noted;
      choices = c.choices_of.ensures.each;
    }
