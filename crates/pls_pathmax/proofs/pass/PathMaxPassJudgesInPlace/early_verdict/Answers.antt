use Rattle.std.proofs.Common.{◌≡◌, ◌∙◌, false, refl, sym, ap}
use Rattle.pls_scheme.specs.Reading.{label_above, reading}
use Rattle.pls_levels.specs.Rules.{is_placed_in_tree}
use Rattle.pls_pathmax.specs.inner.Glance.{head_seen}
use Rattle.pls_pathmax.proofs.Glances.{head_kept}
use Rattle.pls_pathmax.proofs.pass.PathMaxPassJudgesInPlace.early_verdict.Goals as goal

pub returns-else-is_placed : goal.returns-else-is_placed
returns-else-is_placed g c label ports said glance above =
    let placed : is_placed_in_tree (reading c.args.id c.args.state label ports) ≡ false =
    sym (c.is_placed.ensures label ports (ap (head_seen g.row.N) glance)
    (head_kept g.row.N (label_above ports c.args.state.up) _ _ c.head_above.ensures above))
    ∙ c.if-is_placed.false in
    rw placed refl
