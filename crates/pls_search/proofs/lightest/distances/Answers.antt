use Rattle.std.proofs.Common.{◌≡◌, ◌∙◌, ◌<◌, ℕ, List, [], ◌∷◌, Option, None, Some, heap_items, rules, false, not, IsPermutation, is_some, length, replicate, slice_get, slice_index_or, sym, ap, subst, arith}
use Rattle.std.proofs.lemmas.List.{nil_from_length}
use Rattle.pls_configuration.specs.declared.row.NodeRow.{NodeRow}
use Rattle.pls_graph.proofs.Finds.{item_at, Some-is_some}
use Rattle.pls_search.specs.inner.Ahead.{Ahead, reached_by}
use Rattle.pls_search.specs.inner.Noting.{IsNoted}
use Rattle.pls_search.proofs.Adding.{beside_few, read_within}
use Rattle.pls_search.proofs.Entering.{Reaching-entered}
use Rattle.pls_search.proofs.Exhausted.{AreDistances-end}
use Rattle.pls_search.proofs.Reaching.{Reaching, Reaching-first, Reaching-passed, fewer_left, first_was, first_within}
use Rattle.pls_search.proofs.lightest.distances.Goals as goal

pub loop-weight-init : goal.loop-weight-init
loop-weight-init c =
    let rows = c.args.net.now in
    let blank : c.in_ok-found.found.items ≡ replicate (length rows) None = search rules in
    let ahead = heap_items c.push.new.self in
    let alone : IsPermutation (reached_by 0 c.args.root ∷ []) ahead =
    subst (λ (items : List Ahead). IsPermutation (reached_by 0 c.args.root ∷ items) ahead)
    c.new-ahead.ensures.items c.in_ok-push.ensures.permutation in (
      subst (λ (found : List (Option ℕ)). Reaching rows c.args.root found ahead) (sym blank)
          (Reaching-first rows c.len.ensures.valid c.args.root c.requires ahead alone),
      c.in_ok-push.ensures.heap_order c.new-ahead.ensures.heap_order,
    )

pub index-requires : goal.index-requires
index-requires c =
    let done = c.loop-weight.invariant.0 in
    let within =
    first_within c.args.net.now c.len.ensures.valid c.args.root c.loop-weight.found.items
    (heap_items c.loop-weight.ahead) c.in-Some.field-0 (heap_items c.pop.new.self)
    c.in-Some.ensures.permutation done in
    omega (arith, within, done.size, c.loop-weight.found.ok.0)

pub index_mut-requires : goal.index_mut-requires
index_mut-requires c =
    let done = c.loop-weight.invariant.0 in
    let within =
    first_within c.args.net.now c.len.ensures.valid c.args.root c.loop-weight.found.items
    (heap_items c.loop-weight.ahead) c.in-Some.field-0 (heap_items c.pop.new.self)
    c.in-Some.ensures.permutation done in
    omega (arith, within, done.size, c.loop-weight.found.ok.0)

pub look_beside-requires-clause-within : goal.look_beside-requires-clause-within
look_beside-requires-clause-within c =
    first_within c.args.net.now c.len.ensures.valid c.args.root c.loop-weight.found.items
    (heap_items c.loop-weight.ahead) c.in-Some.field-0 (heap_items c.pop.new.self)
    c.in-Some.ensures.permutation c.loop-weight.invariant.0

pub look_beside-requires-clause-small : goal.look_beside-requires-clause-small
look_beside-requires-clause-small c =
    let done = c.loop-weight.invariant.0 in
    let small = done.small c.in-Some.field-0
    (first_was c.args.net.now c.len.ensures.valid c.args.root c.loop-weight.found.items
    (heap_items c.loop-weight.ahead) c.in-Some.field-0 (heap_items c.pop.new.self)
    c.in-Some.ensures.permutation done) in
    let few = c.len.ensures.valid.limits.few_nodes in
    omega (arith, small, few)

pub loop-weight-smaller-in-Continue-branch-3 : goal.loop-weight-smaller-in-Continue-branch-3
loop-weight-smaller-in-Continue-branch-3 c =
    let rows = c.args.net.now in
    let done = c.loop-weight.invariant.0 in
    let old = heap_items c.loop-weight.ahead in
    let rest = heap_items c.pop.new.self in
    let found = c.loop-weight.found.items in
    let first = c.in-Some.field-0 in
    let within =
    first_within rows c.len.ensures.valid c.args.root found old first rest
    c.in-Some.ensures.permutation done in
    let inside : first.0.1 < length found = omega (arith, within, done.size) in
    let none : is_some (slice_index_or found first.0.1 None) ≡ false =
    ap is_some (read_within found first.0.1 c.index.result.now inside c.index.ensures)
    ∙ c.is_none.ensures ∙ ap not c.if-is_none.true in
    let fewer = fewer_left rows c.len.ensures.valid c.args.root found old first rest
    c.in-Some.ensures.permutation done none in
    let many = beside_few rows c.len.ensures.valid first.0.1 within in
    omega (arith, fewer, many, c.in_ok-look_beside.ensures.len, c.in-Some.ensures.len)

pub loop-weight-preserved-in-Continue-branch-3 : goal.loop-weight-preserved-in-Continue-branch-3
loop-weight-preserved-in-Continue-branch-3 c =
    let rows = c.args.net.now in
    let (done, order) = c.loop-weight.invariant in
    let old = heap_items c.loop-weight.ahead in
    let rest = heap_items c.pop.new.self in
    let found = c.loop-weight.found.items in
    let first = c.in-Some.field-0 in
    let within = first_within rows c.len.ensures.valid c.args.root found old first rest
    c.in-Some.ensures.permutation done in
    let inside : first.0.1 < length found = omega (arith, within, done.size) in
    let none : is_some (slice_index_or found first.0.1 None) ≡ false =
    ap is_some (read_within found first.0.1 c.index.result.now inside c.index.ensures)
    ∙ c.is_none.ensures ∙ ap not c.if-is_none.true in
    let (row, at) : (row : NodeRow) × (slice_get rows first.0.1 ≡ Some row) =
    item_at rows first.0.1 within in (
      Reaching-entered rows c.len.ensures.valid c.args.root found old first rest
          c.in-Some.ensures.permutation done (c.in-Some.ensures.heap_order order).1 row at none
          (c.in_ok-look_beside.ensures.light row at) (heap_items c.look_beside.new.ahead)
          (c.in_ok-look_beside.ensures.added row at),
      c.in_ok-look_beside.ensures.order,
    )

pub loop-weight-preserved : goal.loop-weight-preserved
loop-weight-preserved c =
    let rows = c.args.net.now in
    let (done, order) = c.loop-weight.invariant in
    let old = heap_items c.loop-weight.ahead in
    let rest = heap_items c.pop.new.self in
    let found = c.loop-weight.found.items in
    let first = c.in-Some.field-0 in
    let within =
    first_within rows c.len.ensures.valid c.args.root found old first rest
    c.in-Some.ensures.permutation done in
    let inside : first.0.1 < length found = omega (arith, within, done.size) in
    let known : (weight : ℕ) × IsNoted found first.0.1 weight =
    Some-is_some (slice_index_or found first.0.1 None)
    (ap is_some (read_within found first.0.1 c.index.result.now inside c.index.ensures)
    ∙ c.is_none.ensures ∙ ap not c.if-is_none.false) in (
      Reaching-passed rows c.len.ensures.valid c.args.root found old first rest
          c.in-Some.ensures.permutation done known.0 known.1,
      (c.in-Some.ensures.heap_order order).0,
    )

pub returns : goal.returns
returns c =
    let rows = c.args.net.now in
    let found = c.loop-weight.found.items in
    let ahead = heap_items c.loop-weight.ahead in
    let empty : ahead ≡ [] = nil_from_length ahead
    (omega (arith, c.in_default.ensures.none, c.loop-weight.ahead.data.ok.0)) in
    AreDistances-end rows c.len.ensures.valid c.args.root found
    (subst (Reaching rows c.args.root found) empty c.loop-weight.invariant.0)
