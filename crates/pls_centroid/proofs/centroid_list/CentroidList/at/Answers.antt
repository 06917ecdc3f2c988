use Rattle.std.proofs.Common.{◌≡◌, ◌∙◌, ◌<◌, ℕ, List, Vec, Global, Option, None, length, get_or, slice_get, refl, sym, ap, subst, arith}
use Rattle.std.specs.Vec.{vec_len}
use Rattle.std.proofs.lemmas.Option.{slice_get_read}
use Rattle.pls_centroid.specs.declared.level.CentroidLevel.{CentroidLevel}
use Rattle.pls_centroid.specs.inner.Kept.{levels_kept}
use Rattle.pls_centroid.specs.inner.Rounds.{entries_at, said_on}
use Rattle.pls_centroid.proofs.Saying.{entries_many, entry_some, level_here, lists_in, said_on-few}
use Rattle.pls_centroid.proofs.centroid_list.CentroidList.at.Goals as goal

pub index-requires-in-Shared : goal.index-requires-in-Shared
index-requires-in-Shared c =
    let rounds = c.in-Shared.rounds.value.items in
    let entries : List (Option CentroidLevel) = entries_at (lists_in rounds) c.in-Shared.place in
    let within : c.args.number < length (said_on entries) =
    subst (λ (list : List CentroidLevel). c.args.number < length list)
    (sym c.self.view_is ∙ ap levels_kept c.in-Shared.is) c.requires in
    let few = said_on-few entries in
    let many : length entries ≡ length rounds = entries_many rounds c.in-Shared.place in
    subst (λ (all : Vec (Vec (Option CentroidLevel) Global) Global).
    c.args.number < vec_len all) (sym c.deref.ensures) (omega (arith, within, few, many))

pub unreachable-requires : goal.unreachable-requires
unreachable-requires c =
    let rounds : List (Vec (Option CentroidLevel) Global) = c.in-Shared.rounds.value.items in
    let kept : c.args.self.now ≡ said_on (entries_at (lists_in rounds) c.in-Shared.place) =
    sym c.self.view_is ∙ ap levels_kept c.in-Shared.is in
    entry_some rounds c.in-Shared.place c.args.number
    (subst (λ (list : List CentroidLevel). c.args.number < length list) kept c.requires)
    c.index-in-Shared.result.now
    (c.index-in-Shared.ensures
    ∙ ap (λ (all : Vec (Vec (Option CentroidLevel) Global) Global).
    get_or all.items c.args.number c.index-in-Shared.result.now) c.deref.ensures)
    (ap (λ (round : List (Option CentroidLevel)). get_or round c.in-Shared.place None)
    (sym c.deref-in-Shared.ensures.value)
    ∙ sym c.level_at.ensures ∙ c.in-None.is)

pub returns-in-Own : goal.returns-in-Own
returns-in-Own c =
    let levels : List CentroidLevel = c.in-Own.levels.items in
    let kept : c.args.self.now ≡ levels = sym c.self.view_is ∙ ap levels_kept c.in-Own.is in
    ap (λ (list : List CentroidLevel). slice_get list c.args.number) kept
    ∙ slice_get_read levels (length levels) c.args.number c.index.result.now refl
    (subst (λ (list : List CentroidLevel). c.args.number < length list) kept c.requires)
    c.index.ensures

pub returns-in-Some : goal.returns-in-Some
returns-in-Some c =
    let rounds : List (Vec (Option CentroidLevel) Global) = c.in-Shared.rounds.value.items in
    let place : ℕ = c.in-Shared.place in
    let kept : c.args.self.now ≡ said_on (entries_at (lists_in rounds) place) =
    sym c.self.view_is ∙ ap levels_kept c.in-Shared.is in
    ap (λ (list : List CentroidLevel). slice_get list c.args.number) kept
    ∙ level_here rounds place c.args.number
    (subst (λ (list : List CentroidLevel). c.args.number < length list) kept c.requires)
    c.index-in-Shared.result.now
    (c.index-in-Shared.ensures
    ∙ ap (λ (all : Vec (Vec (Option CentroidLevel) Global) Global).
    get_or all.items c.args.number c.index-in-Shared.result.now) c.deref.ensures)
    ∙ ap (λ (round : List (Option CentroidLevel)). get_or round place None)
    (sym c.deref-in-Shared.ensures.value)
    ∙ sym c.level_at.ensures ∙ c.in-Some.is
