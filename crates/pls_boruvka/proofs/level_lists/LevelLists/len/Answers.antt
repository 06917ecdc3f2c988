use Rattle.std.proofs.Common.{◌∙◌, List, length, sym, ap}
use Rattle.std.proofs.lemmas.List.FromFn.{length-map-range_with_len}
use Rattle.pls_boruvka.specs.declared.joining.ChosenEnd.{ChosenEnd}
use Rattle.pls_boruvka.specs.inner.Chosen.{said_at}
use Rattle.pls_boruvka.proofs.level_lists.LevelLists.len.Goals as goal

pub returns : goal.returns
returns c =
    let rounds : List (List ChosenEnd) = c.self.inside.rounds.value.items in
    sym (length-map-range_with_len (said_at rounds) 0 c.self.inside.count)
    ∙ ap length c.self.view_is
