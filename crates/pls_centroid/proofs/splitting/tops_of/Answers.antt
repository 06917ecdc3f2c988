use Rattle.std.proofs.Common.{◌≡◌, ◌∙◌, ℕ, List, Some, get_or, slice_get, sym, ap, subst, arith}
use Rattle.std.proofs.lemmas.List.{length-set}
use Rattle.std.proofs.lemmas.Option.{slice_get-get_or}
use Rattle.pls_centroid.specs.inner.Rooted.{AreTopsOf, IsTopOf, top_by}
use Rattle.pls_centroid.proofs.Loops.{top_right, tops_all}
use Rattle.pls_centroid.proofs.Noting.{tops_more}
use Rattle.pls_centroid.proofs.splitting.tops_of.Goals as goal

pub loop-place-preserved : goal.loop-place-preserved
loop-place-preserved c =
    let left = c.args.left.now in
    let order = c.args.order.now in
    let tops = c.loop-place.tops.items in
    let count = c.loop-place.place-index in
    let place : ℕ = get_or order count 0 in
    let top : ℕ = c.top_by-top.result in
    let at : slice_get order count ≡ Some place =
    slice_get-get_or order count 0 c.loop-place-test.true in
    let many = c.loop-place.invariant.each in
    let is : top ≡ top_by left tops place = c.top_by-top.ensures
    ∙ ap (λ (tops : List ℕ). top_by left tops place) c.as_slice.ensures.value in
    let inside = c.requires.order.within count place at in
    record {
      each = omega (arith, many, length-set tops place top);
      right = tops_more left order count tops place top at (omega (arith, inside, many))
          (subst (IsTopOf left place) (sym is)
          (top_right left order count tops place c.requires.order many
          c.loop-place.invariant.right at (c.requires.inside place)))
          c.loop-place.invariant.right;
    }

pub returns-clause-tops : goal.returns-clause-tops
returns-clause-tops c = tops_all c.args.left.now c.args.order.now c.loop-place.tops.items
    c.requires.order
    c.loop-place.invariant.each c.loop-place.place-index (omega (arith, c.loop-place-test.false))
    c.loop-place.invariant.right

pub returns-clause-inside : goal.returns-clause-inside
returns-clause-inside c k d within =
    let tops = c.loop-place.tops.items in
    let are : AreTopsOf c.args.left.now tops = tops_all c.args.left.now c.args.order.now tops
    c.requires.order c.loop-place.invariant.each c.loop-place.place-index
    (omega (arith, c.loop-place-test.false)) c.loop-place.invariant.right in
    (are.top k (get_or tops k d) (slice_get-get_or tops k d within)).inside
