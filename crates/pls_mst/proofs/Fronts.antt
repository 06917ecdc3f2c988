-- The first levels of two nodes side by side, as they are kept, and what is kept of a label.
use Rattle.std.proofs.Common.{◌≡◌, ◌∙◌, ℕ, suc, ◌+◌, ◌-◌, ◌≤◌, ◌<◌, ◌&&◌, ◌∷◌, true, Bool, List, length, get_or, take, drop, Some, option_map, refl, subst, sym, ap, arith}
use Rattle.std.specs.List.{list_all}
use Rattle.std.proofs.lemmas.List.{take-append-drop, take_all}
use Rattle.std.proofs.lemmas.List.Folds.{list_all-append}
use Rattle.pls_numbers.specs.Numbers.{NumbersLeft}
use Rattle.pls_numbers.specs.Shape.{if_clean}
use Rattle.pls_numbers.specs.Taking.{IsTaken, are_items, items_off}
use Rattle.pls_numbers.specs.laws.TakingLaws.{items_off-next, items_off-take}
use Rattle.pls_boruvka.specs.declared.level.Level.{Level}
use Rattle.pls_mst.specs.declared.glance.MstGlance.{MstGlance}
use Rattle.pls_mst.specs.declared.glance.TheConstants.{FRONT}
use Rattle.pls_mst.specs.declared.kept_level.KeptLevel.{KeptLevel}
use Rattle.pls_levels.specs.declared.label.LevelHead.{LevelHead}
use Rattle.pls_levels.specs.Labels.{head_off, level_label_of}
use Rattle.pls_levels.proofs.KeptFronts.{IsKept, kept_split}
use Rattle.pls_levels.proofs.Labels.{a_label}
use Rattle.pls_mst.specs.Labels.{level_off, mst_levels}
use Rattle.pls_mst.specs.Rules.{on_each_level}
use Rattle.pls_mst.specs.laws.LabelLaws.{exact_levels}
use Rattle.pls_mst.specs.inner.Glance.{IsFront, all_whole, front_of, glance_of, kept_in}
use Rattle.pls_mst.specs.inner.KeptLevel.{kept_form, no_level, whole}

-- of the first `count` levels of a front, those from a place on
abbrev pub kept_from : ℕ → ℕ → List KeptLevel → List Level
kept_from place count front = drop place (take count (all_whole front))

-- a test of each of those of two nodes is the test of the first, and of those behind it
pub on_each-next : (test : Level → Level → Bool) (place count : ℕ) (mine theirs : List KeptLevel)
    (here there : Level) (passed : Bool) → place < count → count ≤ length mine
    → count ≤ length theirs → here ≡ whole (get_or mine place no_level)
    → there ≡ whole (get_or theirs place no_level) → passed ≡ test here there
    → on_each_level test (kept_from place count mine) (kept_from place count theirs)
    ≡ (passed
    && on_each_level test (kept_from (place + 1) count mine) (kept_from (place + 1) count theirs))
on_each-next test place count mine theirs here there passed less mine_has theirs_has here_is
    there_is passed_is =
    rw (
      kept_split kept_form count mine place less (omega (arith, less, mine_has)),
      kept_split kept_form count theirs place less (omega (arith, less, theirs_has)),
      passed_is,
      here_is,
      there_is,
    ) refl

-- whether all are is whether the first and the others are
pub list_all-split : {X : Type 0} (test : X → Bool) (count : ℕ) (items : List X)
    → list_all test items ≡ (list_all test (take count items) && list_all test (drop count items))
list_all-split test count items = ap (list_all test) (sym (take-append-drop count items))
    ∙ list_all-append test (take count items) (drop count items)

-- a level that is read comes first of those that are left
pub next_read : (place count : ℕ) (front : List KeptLevel) (levels : List Level)
    (old : NumbersLeft) (level : Level) (new : NumbersLeft) → place < count
    → IsTaken level_off level old new
    → IsKept kept_form FRONT place front levels (items_off level_off (count - place) old.numbers)
    → IsKept kept_form FRONT place front levels
    (level ∷ items_off level_off (count - (place + 1)) new.numbers)
next_read place count front levels old level new less taken is =
    let left : ℕ = count - (place + 1) in
    let one : count - place ≡ suc left = omega (arith, less) in
    subst (IsKept kept_form FRONT place front levels)
    (ap (λ (count : ℕ). items_off level_off count old.numbers) one
    ∙ items_off-next level_off left level old new taken) is

-- what is kept of a label, by what was read of it
pub glance_there : (left : NumbersLeft) (head : LevelHead) (new : NumbersLeft) (kept : ℕ)
    (front : List KeptLevel) → IsTaken head_off head left new
    → are_items level_off head.count new ≡ true
    → IsFront kept front (items_off level_off head.count new.numbers)
    → Some (record { head = head; kept = kept; front = front })
    ≡ option_map glance_of (if_clean (level_label_of mst_levels) left)
glance_there left head new kept front taken there (kept_is, front_is) =
    let (label, read, said, levels) = a_label mst_levels exact_levels left new head taken there in
    let many : length label.levels ≡ head.count = ap (λ (head : LevelHead). head.count) said in
    let all : items_off level_off head.count new.numbers ≡ label.levels =
    items_off-take level_off head.count (length label.levels) new.numbers label.levels levels
    (omega (arith, many)) ∙ take_all head.count label.levels (omega (arith, many)) in
    let glance : LevelHead → ℕ → List KeptLevel → MstGlance =
    λ head kept front. record { head = head; kept = kept; front = front } in
    let both : glance head kept front ≡ glance_of label =
    ap (λ (kept : ℕ). glance head kept front) (kept_is ∙ ap kept_in all)
    ∙ ap (glance head (kept_in label.levels)) (front_is ∙ ap front_of all)
    ∙ ap (λ (head : LevelHead). glance head (kept_in label.levels) (front_of label.levels))
    (sym said) in
    ap Some both ∙ sym (ap (option_map glance_of) read)
