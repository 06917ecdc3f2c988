use Rattle.std.proofs.Common.{◌≡◌, ◌∙◌, ◌+◌, ◌∷◌, [], ℕ, suc, Bool, List, Vec, Global, Option, length, sym, ap, subst, arith, length-append}
use Rattle.std.proofs.lemmas.List.{length-map, map-append}
use Rattle.std.specs.List.{list_all}
use Rattle.pls_centroid.specs.declared.level.CentroidLevel.{CentroidLevel}
use Rattle.pls_centroid.specs.inner.Rounds.{AreRoundsFrom, AreTaken}
use Rattle.pls_centroid.proofs.Listing.{all_taken, rounds_all, rounds_more, soon_taken}
use Rattle.pls_centroid.proofs.Saying.{lists_in}
use Rattle.pls_centroid.proofs.all_levels.all_rounds.Goals as goal

abbrev items_of : Vec (Option CentroidLevel) Global → List (Option CentroidLevel)
items_of round = round.items

pub returns-then-are_all : goal.returns-then-are_all
returns-then-are_all c =
    let taken : List Bool = c.loop.taken.items in
    rounds_all c.args.net.now c.loop.counter (lists_in c.loop.rounds.items) c.loop.invariant.rounds
    (length-map c.loop.rounds.items items_of ∙ c.loop.invariant.many)
    (all_taken c.args.net.now c.loop.counter taken c.loop.invariant.flags
    (ap (list_all (λ flag. flag)) (sym c.as_slice.ensures.value)
    ∙ sym c.are_all.ensures ∙ c.if-are_all.true))

pub loop-preserved : goal.loop-preserved
loop-preserved c =
    let rows = c.args.net.now in
    let count : ℕ = c.loop.counter in
    let rounds = c.loop.rounds.items in
    let said = c.in_ok-round.round.said in
    let next : suc count ≡ count + 1 = omega arith in
    let many = c.loop.invariant.many in
    let flags : AreTaken rows count c.as_slice-in-loop.result.now =
    subst (AreTaken rows count) (sym c.as_slice-in-loop.ensures.value) c.loop.invariant.flags in
    record {
      each = c.in_ok-round.ensures.each;
      many = let all = ap length c.in_ok-push.ensures.items in
          omega (arith, all, many, length-append rounds (said ∷ []));
      flags = subst (λ (number : ℕ). AreTaken rows number c.in_ok-round.round.taken.items) next
          (c.in_ok-round.ensures.taken count c.requires.rooted flags);
      rounds = subst (AreRoundsFrom rows 0)
          (sym (ap lists_in c.in_ok-push.ensures.items ∙ map-append items_of rounds (said ∷ [])))
          (rounds_more rows 0 count (lists_in rounds) said.items
          (let mapped = length-map rounds items_of in omega (arith, mapped, many))
          c.loop.invariant.rounds (c.in_ok-round.ensures.said count c.requires.rooted flags));
    }

pub returns : goal.returns
returns c =
    rounds_all c.args.net.now c.loop.counter (lists_in c.loop.rounds.items) c.loop.invariant.rounds
    (length-map c.loop.rounds.items items_of ∙ c.loop.invariant.many)
    (λ u known. soon_taken c.args.net.now c.requires.rooted.net c.requires.rooted.tree u known
    c.loop.counter (let ends = c.loop-test.false in let most = c.loop.auto.counter-end in
    let each = c.requires.each in omega (arith, ends, most, each)))
