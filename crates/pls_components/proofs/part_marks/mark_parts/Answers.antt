use Rattle.std.proofs.Common.{◌≡◌, ◌≢◌, ℕ, List, Some, length, slice_get, sym, ap, arith}
use Rattle.std.specs.Vec.{vec_len}
use Rattle.std.proofs.lemmas.Bool.{eqb-false, eqb-true}
use Rattle.std.proofs.lemmas.List.{nil_from_length}
use Rattle.pls_graph.proofs.Finds.{item_at}
use Rattle.pls_components.specs.Components.{least_id}
use Rattle.pls_components.proofs.Marking.{all-shown, lacking-more, marked-more, some-lacking}
use Rattle.pls_components.proofs.part_marks.mark_parts.Goals as goal
use Rattle.pls_components.proofs.part_marks.mark_parts.Goals.{else-not-branch, then-not-branch+in_ok-push}

pub loop-k-preserved : goal.loop-k-preserved
loop-k-preserved g c =
    let net = c.args.net.now in
    let parts = c.args.parts.now in
    let scheme = c.args.scheme.now in
    let k = c.loop-k.k in
    let (places, at) : (places : List ℕ) × (slice_get parts k ≡ Some places) =
    item_at parts k (omega (arith, c.loop-k-test.true, c.len-k-end.ensures)) in
    let done = c.in_ok-mark_part.ensures.put places at in
    elim c.if-not-branch.branch [
      | then-not-branch+in_ok-push w ↦
          let lacking = rw w.if-not-branch.true at done in
          let least : least_id net places ≡ w.smallest_id.result = sym (w.smallest_id.ensures places at) in
          rw (w.ids-is, w.in_ok-push.ensures.items, lacking.0)
          (lacking-more (g.S.Property.holds scheme) (g.S.Scheme.marked scheme)
          (g.S.Checker.judge scheme) (g.S.Scheme.longest scheme) net parts c.len-2.ensures.valid
          c.requires k places at c.loop-k.labels c.loop-k.ids.items w.smallest_id.result
          c.loop-k.invariant lacking.1 least)
      | else-not-branch w ↦
          let marked = rw w.if-not-branch.false at done in
          rw w.ids-is
          (marked-more (g.S.Property.holds scheme) (g.S.Scheme.marked scheme)
          (g.S.Checker.judge scheme) (g.S.Scheme.longest scheme) net parts c.len-2.ensures.valid
          c.requires k places at c.loop-k.labels c.mark_part.new.labels marked.0 c.loop-k.ids.items
          c.loop-k.invariant marked.1 marked.2)
    ]

pub returns-then-is_empty-clause-labels : goal.returns-then-is_empty-clause-labels
returns-then-is_empty-clause-labels g c =
    let scheme = c.args.scheme.now in
    let none : vec_len c.loop-k.ids ≡ 0 = eqb-true (vec_len c.loop-k.ids) 0 (sym c.if-is_empty.ensures) in
    all-shown (g.S.Property.holds scheme) (g.S.Scheme.marked scheme) (g.S.Checker.judge scheme)
    (g.S.Scheme.longest scheme) c.args.net.now c.args.parts.now c.len-2.ensures.valid c.requires
    c.loop-k.k (omega (arith, c.loop-k-test.false, c.len-k-end.ensures)) c.loop-k.labels
    c.loop-k.ids.items c.loop-k.invariant
    (nil_from_length c.loop-k.ids.items (omega (arith, none, c.loop-k.ids.ok.0)))

pub returns-clause-lacking : goal.returns-clause-lacking
returns-clause-lacking g c =
    let scheme = c.args.scheme.now in
    let some : vec_len c.loop-k.ids ≢ 0 =
    eqb-false (vec_len c.loop-k.ids) 0 (sym c.if-is_empty.ensures) in
    some-lacking (g.S.Property.holds scheme) (g.S.Scheme.marked scheme) (g.S.Checker.judge scheme)
    (g.S.Scheme.longest scheme) c.args.net.now c.args.parts.now c.len-2.ensures.valid c.requires
    c.loop-k.k (omega (arith, c.loop-k-test.false, c.len-k-end.ensures)) c.loop-k.labels
    c.loop-k.ids.items c.loop-k.invariant
    (λ empty. some (let long = ap (length {A = ℕ}) empty in omega (arith, long, c.loop-k.ids.ok.0)))
