use Rattle.std.proofs.Common.{◌≡◌, ◌∙◌, arith, refl, subst, sym}
use Rattle.std.proofs.lemmas.Option.{same_Some}
use Rattle.pls_configuration.specs.Configuration.{IsNetwork}
use Rattle.pls_edits.specs.Edited.{place_for}
use Rattle.pls_recheck.proofs.Coming.{place_inside, joined_and_left, joined_place, may_go}
use Rattle.pls_recheck.proofs.joining.join_with_label.Goals as goal

pub unwrap-i-requires : goal.unwrap-i-requires
unwrap-i-requires c =
    let place = joined_place c.args.net.now c.join.ensures.was_valid c.args.id c.args.mark c.args.num
    c.in_ok-join.ensures.allowed c.join.new.net c.in_ok-join.ensures.ok c.place_of.ensures.valid in
    rw (c.place_of.ensures.place ∙ place) refl

pub insert-requires : goal.insert-requires
insert-requires c =
    let place = joined_place c.args.net.now c.join.ensures.was_valid c.args.id c.args.mark c.args.num
    c.in_ok-join.ensures.allowed c.join.new.net c.in_ok-join.ensures.ok c.place_of.ensures.valid in
    let is : c.unwrap-i.result ≡ place_for c.args.net.now c.args.id =
    same_Some _ _ (sym c.unwrap-i.ensures ∙ c.place_of.ensures.place ∙ place) in
    omega (
      arith,
      is,
      place_inside c.args.net.now c.join.ensures.was_valid c.args.id c.args.mark c.args.num
          c.in_ok-join.ensures.allowed,
      c.requires.a_label,
    )

pub take_back-requires : goal.take_back-requires
take_back-requires c =
    may_go c.args.net.now c.join.ensures.was_valid c.args.id c.args.mark c.args.num
    c.in_ok-join.ensures.allowed c.join.new.net c.in_ok-join.ensures.ok c.place_of.ensures.valid

pub returns-then-is_err-clause-valid : goal.returns-then-is_err-clause-valid
returns-then-is_err-clause-valid c =
    subst IsNetwork (sym (c.take_back.ensures
    ∙ joined_and_left c.args.net.now c.join.ensures.was_valid c.args.id c.args.mark c.args.num
    c.in_ok-join.ensures.allowed c.join.new.net c.in_ok-join.ensures.ok c.place_of.ensures.valid))
    c.join.ensures.was_valid

pub returns-then-is_err-clause-unchanged : goal.returns-then-is_err-clause-unchanged
returns-then-is_err-clause-unchanged c =
    c.take_back.ensures
    ∙ joined_and_left c.args.net.now c.join.ensures.was_valid c.args.id c.args.mark c.args.num
    c.in_ok-join.ensures.allowed c.join.new.net c.in_ok-join.ensures.ok c.place_of.ensures.valid

pub returns-clause-place : goal.returns-clause-place
returns-clause-place c =
    let place = joined_place c.args.net.now c.join.ensures.was_valid c.args.id c.args.mark c.args.num
    c.in_ok-join.ensures.allowed c.join.new.net c.in_ok-join.ensures.ok c.place_of.ensures.valid in
    same_Some _ _ (sym c.unwrap-i.ensures ∙ c.place_of.ensures.place ∙ place)
