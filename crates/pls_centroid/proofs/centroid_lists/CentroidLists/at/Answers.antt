use Rattle.std.proofs.Common.{◌∙◌, ◌<◌, ℕ, List, Vec, Global, Option, Some, length, slice_get, sym, ap, subst}
use Rattle.std.proofs.lemmas.List.FromFn.{length-map-range_with_len}
use Rattle.pls_centroid.specs.declared.level.CentroidLevel.{CentroidLevel}
use Rattle.pls_centroid.specs.inner.Rounds.{entries_at, said_on}
use Rattle.pls_centroid.proofs.Saying.{lists_in, lists_said-at}
use Rattle.pls_centroid.proofs.centroid_lists.CentroidLists.at.Goals as goal

pub returns : goal.returns
returns c =
    let rounds : List (List (Option CentroidLevel)) = lists_in c.self.inside.rounds.value.items in
    let count : ℕ = c.self.inside.count in
    let place : ℕ = c.args.place in
    let within : place < count = subst (λ (many : ℕ). place < many)
    (length-map-range_with_len (λ (place : ℕ). said_on (entries_at rounds place)) 0 count)
    (subst (λ (lists : List (List CentroidLevel)). place < length lists) (sym c.self.view_is)
    c.requires) in
    ap (λ (lists : List (List CentroidLevel)). slice_get lists place) (sym c.self.view_is)
    ∙ lists_said-at rounds count place within
    ∙ ap (λ (all : Vec (Vec (Option CentroidLevel) Global) Global).
    Some (said_on (entries_at (lists_in all.items) place))) (sym c.in_ok-rounds.ensures.cases)
    ∙ ap Some (sym c.of_rounds.ensures)
