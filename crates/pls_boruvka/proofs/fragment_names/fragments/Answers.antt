use Rattle.std.proofs.Common.{◌≡◌, ◌∙◌, ◌∷◌, [], ℕ, List, Option, Some, get_or, length, slice_get, sym, ap, subst, arith, length-append}
use Rattle.pls_configuration.specs.declared.row.NodeRow.{NodeRow}
use Rattle.pls_graph.proofs.Finds.{from_option_map}
use Rattle.pls_boruvka.specs.Fragments.{JoinedChainEnds}
use Rattle.pls_boruvka.specs.inner.Tops.{Each, HasDepths, IsTop}
use Rattle.pls_boruvka.proofs.ChainLengths.{AreChainLengths-chain_length, Falls-chains, chain_length, depth_few}
use Rattle.pls_boruvka.proofs.Listed.{Each-at, Each-push}
use Rattle.pls_boruvka.proofs.Placing.{HasDepths-rows, JoinedChainEnds-top}
use Rattle.pls_boruvka.proofs.fragment_names.fragments.Goals as goal

pub tops_of-requires-clause-each : goal.tops_of-requires-clause-each
tops_of-requires-clause-each c =
    let size = ap length c.as_slice.ensures.value in
    omega (arith, size, c.requires.each, c.in_ok-parents.ensures.each)

pub tops_of-requires-clause-falls : goal.tops_of-requires-clause-falls
tops_of-requires-clause-falls c =
    let rows = c.args.net.now in
    let valid = c.len.ensures.valid in
    let depth = chain_length rows valid c.requires.never_returns in
    let deep = AreChainLengths-chain_length rows valid c.requires.never_returns in
    subst HasDepths (sym c.as_slice.ensures.value)
    (HasDepths-rows rows valid c.in_ok-parents.parents.items c.in_ok-parents.ensures depth
    (Falls-chains rows valid depth deep) (depth_few rows valid depth deep))

pub node-requires : goal.node-requires
node-requires c =
    let parents = c.as_slice.result.now in
    let tops = c.in_ok-tops.tops.items in
    let items = c.deref-top-items.result.now in
    let all = c.deref-top-items.ensures.value in
    let place = c.loop-top.top-index in
    let size = ap length all in
    let is : IsTop parents c.args.joined.now place (get_or tops place 0) =
    Each-at (IsTop parents c.args.joined.now) tops place 0 c.in_ok-tops.ensures.top
    (omega (arith, size, c.loop-top-test.true)) in
    let same = ap (λ (tops : List ℕ). get_or tops place 0) all in
    let many = ap length c.as_slice.ensures.value in
    omega (arith, is.inside, same, many, c.in_ok-parents.ensures.each)

pub loop-top-preserved : goal.loop-top-preserved
loop-top-preserved c =
    let rows = c.args.net.now in
    let joined = c.args.joined.now in
    let parents = c.in_ok-parents.parents.items in
    let tops = c.in_ok-tops.tops.items in
    let names = c.loop-top.names.items in
    let place = c.loop-top.top-index in
    let name = c.node.result.0 in
    let (many, right) = c.loop-top.invariant in
    let all = c.in_ok-push.ensures.items in
    let Names : ℕ → ℕ → Type 0 = λ place name. (row : NodeRow) → slice_get rows place ≡ Some row
    → JoinedChainEnds rows joined row.id name in
    let (last, there, named) : (last : NodeRow)
    × (slice_get rows (get_or c.deref-top-items.result.now place 0) ≡ Some last)
    × (last.id ≡ name) =
    from_option_map (λ (row : NodeRow). row.id) _ name c.node.ensures.id in
    let same = ap (λ (tops : List ℕ). get_or tops place 0) c.deref-top-items.ensures.value in
    let size = ap length c.deref-top-items.ensures.value in
    let is : IsTop parents joined place (get_or tops place 0) =
    subst (λ (parents : List (Option ℕ)). IsTop parents joined place (get_or tops place 0))
    c.as_slice.ensures.value
    (Each-at (IsTop c.as_slice.result.now joined) tops place 0 c.in_ok-tops.ensures.top
    (omega (arith, size, c.loop-top-test.true))) in (
      let size = ap length all in omega (arith, size, many, length-append names (name ∷ [])),
      subst (Each Names) (sym all) (Each-push Names names place name many right
          (λ row at. subst (JoinedChainEnds rows joined row.id) named
          (JoinedChainEnds-top rows c.len.ensures.valid parents c.in_ok-parents.ensures joined place
          (get_or tops place 0) row last at
          (ap (slice_get rows) (sym same) ∙ there) is))),
    )

pub returns : goal.returns
returns c =
    let tops = ap length c.deref-top-items.ensures.value in
    let parents = ap length c.as_slice.ensures.value in
    let (many, right) = c.loop-top.invariant in record {
      each = omega (
        arith,
        many,
        tops,
        parents,
        c.loop-top-test.false,
        c.loop-top.auto.top-index-end,
        c.in_ok-tops.ensures.each,
        c.in_ok-parents.ensures.each,
      );
      name = λ row place name at is. right place name is row at;
    }
