use Rattle.std.proofs.Common.{◌∙◌, ◌+◌, ◌||◌, ℕ, Bool, drop, sym, ap, subst, arith}
use Rattle.std.proofs.lemmas.List.{drop-drop, drop_all}
use Rattle.pls_levels.proofs.LevelsLeft.{next_left, none_left}
use Rattle.pls_pathmax.specs.Labels.{pathmax_levels}
use Rattle.pls_pathmax.specs.inner.Reading.{AreLeft}
use Rattle.pls_pathmax.specs.laws.LabelLaws.{exact_levels}
use Rattle.pls_pathmax.proofs.Compared.{meet_from, meet_next, none_meet_here, none_meet_there}
use Rattle.pls_pathmax.proofs.LevelsLeft.{drop_split}
use Rattle.pls_pathmax.proofs.comparing.meet_somewhere.Goals as goal

pub returns-in_default : goal.returns-in_default
returns-in_default g c here there mine theirs many =
    let number : ℕ = c.loop.counter in
    sym (c.loop.invariant.all here there mine theirs
    ∙ none_meet_here c.args.weight here there number
    (none_left pathmax_levels c.loop.mine (drop number here) c.in_default.ensures.none
    (c.loop.invariant.mine here mine)))

pub returns-in_default-read_level : goal.returns-in_default-read_level
returns-in_default-read_level g c here there mine theirs many =
    let number : ℕ = c.loop.counter in
    sym (c.loop.invariant.all here there mine theirs
    ∙ none_meet_there c.args.weight here there number
    (none_left pathmax_levels c.loop.theirs (drop number there) c.in_default-read_level.ensures.none
    (c.loop.invariant.theirs there theirs)))

pub returns-then-meet_lightly : goal.returns-then-meet_lightly
returns-then-meet_lightly g c here there mine theirs many =
    let number : ℕ = c.loop.counter in
    let one = next_left pathmax_levels exact_levels
    c.loop.mine c.read_level.new.numbers c.in-Some.here (drop number here)
    c.in-Some.ensures.found (c.loop.invariant.mine here mine) in
    let other = next_left pathmax_levels exact_levels c.loop.theirs c.read_level-in-loop.new.numbers
    c.in-Some-read_level.there (drop number there) c.in-Some-read_level.ensures.found
    (c.loop.invariant.theirs there theirs) in
    sym (c.loop.invariant.all here there mine theirs
    ∙ meet_next c.args.weight here there number c.in-Some.here c.in-Some-read_level.there
    (drop_split here number c.in-Some.here one.0)
    (drop_split there number c.in-Some-read_level.there other.0)
    ∙ ap (λ (meets : Bool). meets || meet_from c.args.weight here there (number + 1))
    (sym c.meet_lightly.ensures ∙ c.if-meet_lightly.true))

pub loop-preserved : goal.loop-preserved
loop-preserved g c =
    let number : ℕ = c.loop.counter in
    record {
      within = omega (arith, c.loop-test.true);
      mine = λ here mine. subst (AreLeft c.read_level.new.numbers) (drop-drop 1 number here)
          (next_left pathmax_levels exact_levels
          c.loop.mine c.read_level.new.numbers c.in-Some.here (drop number here)
          c.in-Some.ensures.found (c.loop.invariant.mine here mine)).1;
      theirs = λ there theirs. subst (AreLeft c.read_level-in-loop.new.numbers)
          (drop-drop 1 number there)
          (next_left pathmax_levels exact_levels
          c.loop.theirs c.read_level-in-loop.new.numbers c.in-Some-read_level.there
          (drop number there) c.in-Some-read_level.ensures.found
          (c.loop.invariant.theirs there theirs)).1;
      all = λ here there mine theirs.
          c.loop.invariant.all here there mine theirs
          ∙ meet_next c.args.weight here there number c.in-Some.here c.in-Some-read_level.there
          (drop_split here number c.in-Some.here
          (next_left pathmax_levels exact_levels
          c.loop.mine c.read_level.new.numbers c.in-Some.here (drop number here)
          c.in-Some.ensures.found (c.loop.invariant.mine here mine)).0)
          (drop_split there number c.in-Some-read_level.there
          (next_left pathmax_levels exact_levels
          c.loop.theirs c.read_level-in-loop.new.numbers c.in-Some-read_level.there
          (drop number there) c.in-Some-read_level.ensures.found
          (c.loop.invariant.theirs there theirs)).0)
          ∙ ap (λ (meets : Bool). meets || meet_from c.args.weight here there (number + 1))
          (sym c.meet_lightly.ensures ∙ c.if-meet_lightly.false);
    }

pub returns : goal.returns
returns g c here there mine theirs many =
    let number : ℕ = c.loop.counter in
    sym (c.loop.invariant.all here there mine theirs
    ∙ none_meet_here c.args.weight here there number (drop_all number here
    (let ends = c.loop-test.false in omega (arith, many, ends))))
