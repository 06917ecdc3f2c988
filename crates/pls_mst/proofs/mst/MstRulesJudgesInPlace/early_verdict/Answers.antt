use Rattle.std.proofs.Common.{◌≡◌, ◌∙◌, ap, false, refl, sym}
use Rattle.pls_scheme.specs.Reading.{reading}
use Rattle.pls_levels.specs.Rules.{is_placed_in_tree}
use Rattle.pls_mst.specs.declared.glance.MstGlance.{MstGlance}
use Rattle.pls_mst.proofs.MorePorts.{head_kept}
use Rattle.pls_mst.proofs.mst.MstRulesJudgesInPlace.early_verdict.Goals as goal

pub returns-else-is_placed : goal.returns-else-is_placed
returns-else-is_placed g c label ports said glance above =
    let placed : is_placed_in_tree (reading c.args.id c.args.state label ports) ≡ false =
    sym (c.is_placed.ensures label ports (ap (λ (seen : MstGlance). seen.head) glance)
    (head_kept c.args.state ports _ _ c.head_above.ensures above)) ∙ c.if-is_placed.false in
    rw placed refl
