use Rattle.std.proofs.Common.{◌≡◌, ◌∙◌, ◌+◌, ◌-◌, ℕ, suc, [], sym, ap, arith}
use Rattle.pls_numbers.specs.Numbers.{left_in}
use Rattle.pls_mst.specs.inner.Comparing.{both_compared}
use Rattle.pls_mst.proofs.Comparisons.{both_there, left_say, none_here, none_there, same_left}
use Rattle.pls_mst.proofs.comparing.compare_behind.Goals as goal

pub returns-in_default : goal.returns-in_default
returns-in_default g c =
    let left : ℕ = c.args.count - (c.loop.counter + 1) in
    let one : c.args.count - c.loop.counter ≡ suc left = omega (arith, c.loop-test.true) in
    none_here c.args.between.now c.args.own c.loop.found left c.loop.mine c.loop.theirs
    c.in_default.ensures.none
    ∙ ap (λ (count : ℕ). both_compared c.loop.found
    (left_say c.args.between.now c.args.own count c.loop.mine c.loop.theirs)) (sym one)
    ∙ sym c.loop.invariant.all

pub returns-in_default-read_level : goal.returns-in_default-read_level
returns-in_default-read_level g c =
    let left : ℕ = c.args.count - (c.loop.counter + 1) in
    let one : c.args.count - c.loop.counter ≡ suc left = omega (arith, c.loop-test.true) in
    none_there c.args.between.now c.args.own c.loop.found left c.loop.mine c.loop.theirs
    c.in_default-read_level.ensures.none
    ∙ ap (λ (count : ℕ). both_compared c.loop.found
    (left_say c.args.between.now c.args.own count c.loop.mine c.loop.theirs)) (sym one)
    ∙ sym c.loop.invariant.all

pub returns-then-equal : goal.returns-then-equal
returns-then-equal g c =
    let left : ℕ = c.args.count - (c.loop.counter + 1) in
    let one : c.args.count - c.loop.counter ≡ suc left = omega (arith, c.loop-test.true) in
    let equal : c.rest.result ≡ c.rest-then-meet.result = c.equal.ensures.0 c.if-equal.true in
    let same : c.read_level.new.numbers ≡ c.read_level-in-loop.new.numbers =
    sym c.rest.ensures ∙ ap (left_in g.C.NumCode.takes []) equal ∙ c.rest-then-meet.ensures in
    same_left c.args.between.now c.args.own c.with_level-found.result left
    c.read_level.new.numbers c.read_level-in-loop.new.numbers same
    ∙ sym (both_there c.args.between.now c.args.own c.loop.found left c.loop.mine
    c.loop.theirs c.with_level-found.result c.in-Some.here c.in-Some-read_level.there
    c.read_level.new.numbers c.read_level-in-loop.new.numbers c.in-Some.ensures.found
    c.in-Some-read_level.ensures.found c.with_level-found.ensures.shares
    c.with_level-found.ensures.least c.with_level-found.ensures.chosen)
    ∙ ap (λ (count : ℕ). both_compared c.loop.found
    (left_say c.args.between.now c.args.own count c.loop.mine c.loop.theirs)) (sym one)
    ∙ sym c.loop.invariant.all

pub loop-preserved : goal.loop-preserved
loop-preserved g c =
    let left : ℕ = c.args.count - (c.loop.counter + 1) in
    let one : c.args.count - c.loop.counter ≡ suc left = omega (arith, c.loop-test.true) in
    record {
      within = omega (arith, c.loop-test.true);
      all = c.loop.invariant.all ∙ ap (λ (count : ℕ). both_compared c.loop.found
          (left_say c.args.between.now c.args.own count c.loop.mine c.loop.theirs)) one
          ∙ both_there c.args.between.now c.args.own c.loop.found left c.loop.mine
          c.loop.theirs c.with_level-found.result c.in-Some.here c.in-Some-read_level.there
          c.read_level.new.numbers c.read_level-in-loop.new.numbers c.in-Some.ensures.found
          c.in-Some-read_level.ensures.found c.with_level-found.ensures.shares
          c.with_level-found.ensures.least c.with_level-found.ensures.chosen;
    }
