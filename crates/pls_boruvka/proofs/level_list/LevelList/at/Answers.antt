use Rattle.std.proofs.Common.{◌≡◌, ◌∙◌, ◌<◌, ℕ, List, Vec, Global, Some, get_or, length, slice_get, sym, ap, subst}
use Rattle.pls_boruvka.specs.declared.joining.ChosenEnd.{ChosenEnd}
use Rattle.pls_boruvka.specs.declared.level.Level.{Level}
use Rattle.pls_boruvka.specs.inner.Chosen.{said_at}
use Rattle.pls_boruvka.specs.inner.Kept.{levels_kept}
use Rattle.pls_boruvka.proofs.Kept.{said_at-round}
use Rattle.pls_boruvka.proofs.level_list.LevelList.at.Goals as goal

pub returns-in-Shared : goal.returns-in-Shared
returns-in-Shared c =
    let rounds : List (List ChosenEnd) = c.in-Shared.rounds.value.items in
    let all : List ChosenEnd = c.index-in-Shared.result.now in
    let place : ℕ = c.in-Shared.place in
    let number : ℕ = c.args.number in
    let kept : said_at rounds place ≡ c.args.self.now =
    sym (ap levels_kept c.in-Shared.is) ∙ c.self.view_is in
    let here : all ≡ get_or rounds number all = c.index-in-Shared.ensures
    ∙ ap (λ (rounds : Vec (List ChosenEnd) Global). get_or rounds.items number all)
    c.deref.ensures in
    ap (λ (list : List Level). slice_get list number) (sym kept)
    ∙ said_at-round rounds place number all
    (subst (λ (list : List Level). number < length list) (sym kept) c.requires) here
    ∙ ap Some (sym c.level_at.ensures)
