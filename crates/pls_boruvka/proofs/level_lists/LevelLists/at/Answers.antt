use Rattle.std.proofs.Common.{◌∙◌, ◌<◌, ℕ, List, Vec, Global, Some, length, slice_get, sym, ap, subst}
use Rattle.std.proofs.lemmas.List.FromFn.{length-map-range_with_len}
use Rattle.pls_boruvka.specs.declared.joining.ChosenEnd.{ChosenEnd}
use Rattle.pls_boruvka.specs.declared.level.Level.{Level}
use Rattle.pls_boruvka.specs.inner.Chosen.{said_at}
use Rattle.pls_boruvka.proofs.Rounds.{said_by-at}
use Rattle.pls_boruvka.proofs.level_lists.LevelLists.at.Goals as goal

pub returns : goal.returns
returns c =
    let rounds : List (List ChosenEnd) = c.self.inside.rounds.value.items in
    let count : ℕ = c.self.inside.count in
    let place : ℕ = c.args.place in
    let within : place < count =
    subst (λ (many : ℕ). place < many) (length-map-range_with_len (said_at rounds) 0 count)
    (subst (λ (lists : List (List Level)). place < length lists) (sym c.self.view_is) c.requires) in
    ap (λ (lists : List (List Level)). slice_get lists place) (sym c.self.view_is)
    ∙ said_by-at rounds count place within
    ∙ ap (λ (all : Vec (List ChosenEnd) Global). Some (said_at all.items place)) (sym c.in_ok-rounds.ensures.cases)
    ∙ ap Some (sym c.of_rounds.ensures)
