use Rattle.std.proofs.Common.{◌≡◌, ◌∙◌, sym, ap, Some, slice_get}
use Rattle.std.specs.List.{list_all}
use Rattle.pls_configuration.specs.declared.row.NodeRow.{NodeRow}
use Rattle.pls_graph.proofs.Finds.{item_at}
use Rattle.pls_diameter_bridges.specs.inner.Reaching.{is_within}
use Rattle.pls_diameter_bridges.proofs.Reached.{levels_within, reached}
use Rattle.pls_diameter_bridges.proofs.diameter.reaches_all.Goals as goal

pub returns : goal.returns
returns c =
    let rows = c.args.net.now in
    let place = c.args.place in
    let most = c.args.most in
    let found = c.in_ok-found.found.items in
    let (first, at) : (first : NodeRow) × (slice_get rows place ≡ Some first) =
    item_at rows place c.requires in
    let all : c.are_within.result ≡ list_all (is_within most) found =
    c.are_within.ensures ∙ ap (list_all (is_within most)) c.deref.ensures.value in (
      λ yes. reached rows most place found c.in_ok-found.ensures (sym all ∙ yes),
      λ reaches. all ∙ levels_within rows most place found c.in_ok-found.ensures first at reaches,
    )
