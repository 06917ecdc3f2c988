use Rattle.std.proofs.Common.{◌∷◌, [], List, ℕ, length, subst, sym}
use Rattle.std.specs.List.{flat_map}
use Rattle.pls_numbers.specs.Numbers.{AreCoded}
use Rattle.pls_numbers.specs.laws.CodeLaws.{coded_front}
use Rattle.pls_levels.specs.declared.label.LevelLabel.{LevelLabel}
use Rattle.pls_levels.specs.Labels.{items_of, numbers_of}
use Rattle.pls_levels.proofs.Written.{level_coded, level_written}
use Rattle.pls_levels.proofs.format.LevelFormatFormat.append.Goals as goal

-- the numbers in front of the levels
abbrev front : {S : Type 0} → LevelLabel S → ℕ → List ℕ
front label count = label.root ∷ label.own ∷ label.parent ∷ label.depth ∷ count ∷ []

pub append_numbers-requires : goal.append_numbers-requires
append_numbers-requires g c =
    let form = g.K.LevelKind.form in
    let label = c.args.label.now in
    let items = items_of form label.levels in
    subst (λ (count : ℕ). AreCoded [] (front label count)) (sym c.count_of-count.ensures)
    (coded_front (front label (length items)) (flat_map (numbers_of form) items)
    c.requires.coded)

pub append_level-requires : goal.append_level-requires
append_level-requires g c =
    let form = g.K.LevelKind.form in
    let label = c.args.label.now in
    let items = items_of form label.levels in
    level_coded (numbers_of form) items c.loop-i.i c.level_at-level.result
    c.level_at-level.ensures (front label (length items)) c.requires.coded

pub loop-i-preserved : goal.loop-i-preserved
loop-i-preserved g c =
    let form = g.K.LevelKind.form in
    level_written (numbers_of form) (items_of form c.args.label.now.levels) c.loop-i.i
    c.level_at-level.result c.level_at-level.ensures g.C.NumCode.code c.append_numbers.new.bits
    c.loop-i.bits c.append_level.new.bits c.loop-i.invariant c.in_ok-append_level.ensures
