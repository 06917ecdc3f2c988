use Rattle.std.proofs.Common.{◌∙◌, sym}
use Rattle.std.proofs.lemmas.Option.{same_Some}
use Rattle.pls_labels.proofs.Views.{own_at}
use Rattle.pls_pathmax.proofs.in_memory.verdict_of_node.Goals as goal

pub returns-then-is_final : goal.returns-then-is_final
returns-then-is_final g c view at =
    let labels = g.L.Labels.listed c.args.labels.now in
    c.is_final.ensures.same c.if-is_final.true view
    (same_Some view.own c.bits.result
    (sym (own_at c.args.net.now c.is_valid.ensures labels c.requires.each c.args.i view at)
    ∙ c.bits.ensures))
    (c.requires.first view at)
