use Rattle.std.proofs.Common.{◌<◌, ℕ, Bool, List, drop, length, slice_get, subst, arith}
use Rattle.std.proofs.lemmas.List.{drop-drop}
use Rattle.pls_levels.proofs.LevelsLeft.{next_left, none_left}
use Rattle.pls_pathmax.specs.Labels.{pathmax_levels}
use Rattle.pls_pathmax.specs.inner.Reading.{AreLeft}
use Rattle.pls_pathmax.specs.laws.LabelLaws.{exact_levels}
use Rattle.pls_pathmax.proofs.Compared.{leads_nothing, noted_all, noted_more, noted_rest, noted_to_end, nothing_leads}
use Rattle.pls_pathmax.proofs.LevelsLeft.{drop_at, nothing_behind}
use Rattle.pls_pathmax.proofs.comparing.note_ways_on.Goals as goal

pub returns-in_default : goal.returns-in_default
returns-in_default g c here there mine theirs k within =
    let number : ℕ = c.loop-number.number in
    noted_all c.args.weight here there number c.args.flags.now c.loop-number.flags
    (c.loop-number.invariant.done here there mine theirs) c.loop-number.invariant.rest
    (λ k later. nothing_leads c.args.weight (slice_get here k) (slice_get there k)
    (nothing_behind here number k
    (none_left pathmax_levels c.loop-number.mine (drop number here) c.in_default.ensures.none
    (c.loop-number.invariant.mine here mine)) later)) k

pub returns-in_default-read_level : goal.returns-in_default-read_level
returns-in_default-read_level g c here there mine theirs k within =
    let number : ℕ = c.loop-number.number in
    noted_all c.args.weight here there number c.args.flags.now c.loop-number.flags
    (c.loop-number.invariant.done here there mine theirs) c.loop-number.invariant.rest
    (λ k later. leads_nothing c.args.weight (slice_get here k) (slice_get there k)
    (nothing_behind there number k
    (none_left pathmax_levels
    c.loop-number.theirs (drop number there) c.in_default-read_level.ensures.none
    (c.loop-number.invariant.theirs there theirs)) later)) k

pub loop-number-preserved : goal.loop-number-preserved
loop-number-preserved g c =
    let number : ℕ = c.loop-number.number in
    let old : List Bool = c.args.flags.now in
    let flags : List Bool = c.loop-number.flags in
    let within : number < length flags =
    let each = c.loop-number.auto.flags in omega (arith, each, c.loop-number-test.true) in
    record {
      mine = λ here mine. subst (AreLeft c.read_level.new.numbers) (drop-drop 1 number here)
          (next_left pathmax_levels exact_levels
          c.loop-number.mine c.read_level.new.numbers c.in-Some.here (drop number here)
          c.in-Some.ensures.found (c.loop-number.invariant.mine here mine)).1;
      theirs = λ there theirs. subst (AreLeft c.read_level-in-loop-number.new.numbers)
          (drop-drop 1 number there)
          (next_left pathmax_levels exact_levels
          c.loop-number.theirs c.read_level-in-loop-number.new.numbers
          c.in-Some-read_level.there
          (drop number there) c.in-Some-read_level.ensures.found
          (c.loop-number.invariant.theirs there theirs)).1;
      done = λ here there mine theirs.
          noted_more c.args.weight here there number old flags
          (c.loop-number.invariant.done here there mine theirs) c.loop-number.invariant.rest within
          c.in-Some.here c.in-Some-read_level.there
          (drop_at here number c.in-Some.here
          (next_left pathmax_levels exact_levels
          c.loop-number.mine c.read_level.new.numbers c.in-Some.here (drop number here)
          c.in-Some.ensures.found (c.loop-number.invariant.mine here mine)).0)
          (drop_at there number c.in-Some-read_level.there
          (next_left pathmax_levels exact_levels
          c.loop-number.theirs c.read_level-in-loop-number.new.numbers
          c.in-Some-read_level.there (drop number there) c.in-Some-read_level.ensures.found
          (c.loop-number.invariant.theirs there theirs)).0)
          c.is_led_on.result c.is_led_on.ensures;
      rest = λ k later. noted_rest number old flags c.loop-number.invariant.rest
          c.is_led_on.result k later;
    }

pub returns : goal.returns
returns g c here there mine theirs k within =
    let number : ℕ = c.loop-number.number in
    noted_to_end c.args.weight here there number c.args.flags.now c.loop-number.flags
    (c.loop-number.invariant.done here there mine theirs) c.loop-number.invariant.rest
    (let ends = c.loop-number-test.false in let most = c.loop-number.auto.number-end in
    let each = c.loop-number.auto.flags in omega (arith, ends, most, each)) k within
