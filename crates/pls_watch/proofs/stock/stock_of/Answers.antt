use Rattle.std.proofs.Common.{◌≡◌, ◌∙◌, ℕ, suc, ◌+◌, ◌-◌, Bool, List, [], ◌++◌, length, replicate, set, take, ap, arith}
use Rattle.std.proofs.lemmas.List.{length-set}
use Rattle.pls_watch.proofs.Stocked.{stock_more}
use Rattle.pls_watch.proofs.stock.stock_of.Goals as goal

pub loop-i-preserved : goal.loop-i-preserved
loop-i-preserved c =
    let so_far = c.loop-i.invariant in
    let labels : List (List Bool) = c.args.labels.now in
    let i : ℕ = c.loop-i.i in
    let label : List Bool = c.bits-in-loop-i.result in
    let left : ℕ = so_far.0 - 1 in
    let some : so_far.0 ≡ suc left =
    omega (arith, so_far.1, c.loop-i-test.true, c.len-nodes.ensures) in
    let next : suc i ≡ i + 1 = omega arith in
    let placed = c.replace_spare.ensures.replaced
    ∙ ap (λ (labels : List (List Bool)). set labels i label) c.in_ok-reserve-2.ensures.labels in (
      left,
      omega (arith, some, so_far.1),
      ap length placed ∙ length-set c.loop-i.room.labels i label ∙ so_far.2,
      placed ∙ ap (λ (labels : List (List Bool)). set labels i label) (so_far.3
          ∙ ap (λ (count : ℕ). take i labels ++ replicate {A = List Bool} count []) some)
          ∙ stock_more labels i left label c.bits-in-loop-i.ensures
          ∙ ap (λ (count : ℕ). take count labels ++ replicate {A = List Bool} left []) next,
    )
