use Rattle.std.proofs.Common.{◌∙◌, ℕ, List, Option, length, sym, ap}
use Rattle.std.proofs.lemmas.List.FromFn.{length-map-range_with_len}
use Rattle.pls_centroid.specs.declared.level.CentroidLevel.{CentroidLevel}
use Rattle.pls_centroid.specs.inner.Rounds.{entries_at, said_on}
use Rattle.pls_centroid.proofs.Saying.{lists_in}
use Rattle.pls_centroid.proofs.centroid_lists.CentroidLists.len.Goals as goal

pub returns : goal.returns
returns c =
    let rounds : List (List (Option CentroidLevel)) = lists_in c.self.inside.rounds.value.items in
    sym (length-map-range_with_len (λ (place : ℕ). said_on (entries_at rounds place)) 0
    c.self.inside.count)
    ∙ ap length c.self.view_is
