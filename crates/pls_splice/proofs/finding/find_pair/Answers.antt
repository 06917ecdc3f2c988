use Rattle.std.proofs.Common.{◌≡◌, ◌∙◌, ◌-◌, ◌+◌, ℕ, List, Vec, Global, ap, length, length-append, refl, sym, subst, arith}
use Rattle.std.proofs.lemmas.Option.{same_Some}
use Rattle.pls_splice.specs.inner.Finding.{HasFirst, IsFoundFrom}
use Rattle.pls_splice.specs.inner.Keys.{edge_key}
use Rattle.pls_splice.proofs.FirstPair.{found_first, found_none}
use Rattle.pls_splice.proofs.Keyed.{key_here, keys_less, table_none}
use Rattle.pls_splice.proofs.Passing.{found_now, table_more, table_now}
use Rattle.pls_splice.proofs.finding.find_pair.Goals as goal

pub loop-turn-init : goal.loop-turn-init
loop-turn-init c =
    let order = c.args.ring.now in
    let key : ℕ → List ℕ = edge_key c.args.net.now c.args.labels.now order in
    let words : Vec ℕ Global → List ℕ = λ (words : Vec ℕ Global). words.items in
    let tails = c.saturating_sub-tails.result in
    let tails_is = c.saturating_sub-tails.ensures in
    let count_is = ap length c.order-count.ensures in
    let many = c.in_ok-keys.ensures.many in (
      table_none words key c.new-later.result (tails - 0 + 3)
          (length c.order-count.result.now - (tails - 0 + 3)) c.new-later.ensures.empty (omega arith),
      found_none c.args.net.now c.args.labels.now order (tails - 0) (omega arith),
      (λ less. omega arith),
      c.in_ok-keys.ensures.keys,
    )

pub loop-turn-preserved : goal.loop-turn-preserved
loop-turn-preserved c =
    let rows = c.args.net.now in
    let labels = c.args.labels.now in
    let order = c.args.ring.now in
    let key : ℕ → List ℕ = edge_key rows labels order in
    let words : Vec ℕ Global → List ℕ = λ (words : Vec ℕ Global). words.items in
    let tails = c.saturating_sub-tails.result in
    let turn = c.loop-turn.turn in
    let less = c.loop-turn-test.true in
    let count = length c.order-count.result.now in
    let i = tails - 1 - turn in
    let keys = c.loop-turn.keys.items in
    let long : length keys ≡ tails - turn + 3 = c.loop-turn.invariant.2 less in
    let fewer : length c.pop.new.self.items + 1 ≡ length keys =
    sym (length-append c.pop.new.self.items _) ∙ ap length (sym c.in-Some.ensures.items) in
    let size = c.loop-turn.keys.ok.0 in
    let last : c.loop-turn.keys.len - 1 ≡ i + 3 = omega arith in
    let far_is : words c.in-Some.far ≡ key (i + 3) =
    key_here words key keys (c.loop-turn.keys.len - 1) c.in-Some.far c.loop-turn.invariant.3
    (omega arith)
    (same_Some c.in-Some.far _ (c.in-Some.ensures.value c.in-Some.far (omega arith)))
    ∙ ap key last in
    let here : words c.index.result.now ≡ key i =
    key_here words key c.pop.new.self.items i c.index.result.now
    (keys_less words key keys c.pop.new.self.items c.in-Some.far c.in-Some.ensures.items
    c.loop-turn.invariant.3) (omega arith) c.index.ensures in
    let table : HasFirst words c.insert.new.self key (i + 3) (count - (i + 3)) =
    table_more tails turn count i less c.saturating_sub-tails.ensures refl words
    c.loop-turn.later c.insert.new.self key c.in-Some.far far_is
    c.in_ok-insert-in-Some.ensures.updates.0 c.loop-turn.invariant.0 in (
      table_now tails turn count i less c.saturating_sub-tails.ensures refl words
          c.insert.new.self key table,
      found_now tails turn count i less c.saturating_sub-tails.ensures refl words
          c.insert.new.self rows labels order c.loop-turn.found c.with_edge-found.result
          c.index.result.now c.copied.result (ap length c.order-count.ensures) table here
          (c.copied.ensures ∙ c.get.ensures.value) c.with_edge-found.ensures
          c.loop-turn.invariant.1,
      (λ more. omega arith),
      keys_less words key keys c.pop.new.self.items c.in-Some.far c.in-Some.ensures.items
          c.loop-turn.invariant.3,
    )

pub returns-clause-none : goal.returns-clause-none
returns-clause-none c =
    let end : c.saturating_sub-tails.result - c.loop-turn.turn ≡ 0 =
    let over = c.loop-turn-test.false in omega arith in
    (found_first c.args.net.now c.args.labels.now c.args.ring.now c.loop-turn.found
    (subst (λ (from : ℕ). IsFoundFrom c.args.net.now c.args.labels.now c.args.ring.now from
    c.loop-turn.found) end c.loop-turn.invariant.1)).0

pub returns-clause-pair : goal.returns-clause-pair
returns-clause-pair c =
    let end : c.saturating_sub-tails.result - c.loop-turn.turn ≡ 0 =
    let over = c.loop-turn-test.false in omega arith in
    (found_first c.args.net.now c.args.labels.now c.args.ring.now c.loop-turn.found
    (subst (λ (from : ℕ). IsFoundFrom c.args.net.now c.args.labels.now c.args.ring.now from
    c.loop-turn.found) end c.loop-turn.invariant.1)).1
